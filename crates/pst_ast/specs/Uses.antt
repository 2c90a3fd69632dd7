-- Where the sources use names, and what each use asks for.
use Rattle.std.specs.Prelude.{ℕ, ◌+◌, if◌then◌else◌, List, [], ◌∷◌, ◌++◌, map, length, Bool, true, false, Option, Some, None}
use Rattle.std.specs.List.{flat_map, filter_map}
use Rattle.pst_base.specs.declared.position.Place.{Place}
use Rattle.pst_base.specs.declared.table.NameId.{NameId}
use Rattle.pst_ast.specs.declared.leaf.Name.{Name}
use Rattle.pst_ast.specs.declared.shared.DotName.{DotName}
use Rattle.pst_ast.specs.declared.shared.LabelNode.{LabelNode}
use Rattle.pst_ast.specs.declared.shared.TypeName.{TypeName}
use Rattle.pst_ast.specs.declared.activity.EndNode.{EndNode}
use Rattle.pst_ast.specs.ExpressionTree.{ExprTree, ExprUnary, ExprBinary, ExprIn, UnaryTree, UnaryPrefix, UnaryPrimary, PrimaryTree, PrimaryNumber, PrimaryTrue, PrimaryFalse, PrimaryPath, PrimaryGroup, PathTree, PathDotted, PathItem, PathLongItem, PartTree, MakePart, NextPartTree, MakeNextPart, MakeIndex, RangesTree, MakeRanges, NextRangeTree, MakeNextRange, RangeTree, RangeSingle, RangeBetween, NextPartRow, NoNextPartRow, MoreNextPartRow, MaybeIndex, NoIndex, SomeIndex, NextRangeRow, NoNextRangeRow, MoreNextRangeRow}
use Rattle.pst_ast.specs.SharedTree.{NextExprTree, MakeNextExpr, LowTree, MakeLow, WidthTree, MakeWidth, PlainTree, PlainInt, PlainBit, PlainBool, DomainTree, MakeDomain, TypeTree, TypePlain, TypeNamed}
use Rattle.pst_ast.specs.ConstraintTree.{ConstraintTree, ConstraintOne, ConstraintBlock, ConstraintItemTree, ConstraintItemEmpty, ConstraintItemExpr, ConstraintItemImplies, ConstraintItemIf, ConstraintItemIfElse, ConstraintItemUnique, ConstraintItemForeach, ConstraintItemRow, NoConstraintItemRow, MoreConstraintItemRow, ConstraintContentNamed, ConstraintContentSet, ConstraintDeclarationTree, MakeConstraintDeclaration}
use Rattle.pst_ast.specs.ActivityTree.{WithTree, WithNothing, WithSet, JoinTree, JoinBranch, JoinNothing, JoinSelect, OtherEndsTree, OtherEndsOne, OtherEndsSeveral, BindTree, MakeBind, WeightTree, MakeWeight, GuardTree, GuardCondition, GuardWeight, ArmLabelTree, ArmLabelRanges, ArmLabelDefault, StatementTree, StatementEmpty, StatementLabeled, StatementPlain, CoreTree, CoreDo, CoreHandle, CoreSequence, CoreTogether, CoreSelect, CoreRepeat, CoreIf, CoreIfElse, CoreMatch, CoreBind, BranchTree, MakeBranch, ArmTree, MakeArm, StatementRow, NoStatementRow, MoreStatementRow, BranchRow, NoBranchRow, MoreBranchRow, ArmRow, NoArmRow, MoreArmRow, ActivityTree, MakeActivity}
use Rattle.pst_ast.specs.BodyTree.{ArgumentsTree, MakeArguments, CallTree, MakeCall, SourceTree, SourceCall, SourceExpr, ValueTree, MakeValue, BodyStatementTree, BodyStatementEmpty, BodyStatementLocal, BodyStatementAssign, BodyStatementCall, BodyStatementBlock, BodyStatementIf, BodyStatementIfElse, BodyStatementRepeat, BodyStatementRow, NoBodyStatementRow, MoreBodyStatementRow, BodyTree, MakeBody}
use Rattle.pst_ast.specs.DeclarationTree.{UnitTree, MakeUnit, ItemTree, ItemComponent, ItemObject, ItemEnum, ItemFunction, ItemEmpty, ComponentTree, MakeComponent, ComponentPartTree, ComponentPartAction, ComponentPartObject, ComponentPartEnum, ComponentPartFunction, ComponentPartPool, ComponentPartPoolBind, ComponentPartMembers, ComponentPartEmpty, ObjectTree, MakeObject, ObjectPartTree, ObjectPartField, ObjectPartConstraint, ObjectPartEmpty, EnumTree, MakeEnum, EnumItemTree, MakeEnumItem, MakeEnumValue, FunctionTree, MakeFunction, AnswerTree, AnswerVoid, AnswerPlain, ParameterTree, MakeParameter, MakePool, SizeTree, MakeSize, TargetTree, MakeTarget, NextTargetTree, MakeNextTarget, TargetsTree, TargetsAll, TargetsOne, TargetsSeveral, MakePoolBind, MakeMembers, ActionTree, MakeAction, ActionPartTree, ActionPartField, ActionPartReference, ActionPartClaim, ActionPartMembers, ActionPartConstraint, ActionPartActivity, ActionPartBody, ActionPartEmpty, FieldTree, MakeField, MakeReference, MakeClaim}
use Rattle.pst_ast.specs.declared.scope_declaration.Declaration.{Declaration}
use Rattle.pst_ast.specs.declared.scope_declaration.Sort.TheVariants as sort
use Rattle.pst_ast.specs.Declarations.{type_declared, action_declared, has_index, next_field_part, next_item, parameters_of, names_of, base_name}
use Rattle.pst_ast.specs.Lookups.{Environment, Owner, Nobody, OfAction, OfObject, Traversal, ByType, ByHandle, inner_named}
use Rattle.pst_ast.specs.Paths.{PathPart}

-- the sorts of types that a type name may ask for
pub data Wanted : Type 0 where
  AComponent : Wanted
  AnAction : Wanted
  AnObject : Wanted
  AnEnum : Wanted

-- what an outermost expression is for
pub data Role : Type 0 where
  -- constants
  Width : (signed : Bool) → Role
  LowestBit : Role
  RangeEnd : Role
  EnumValue : Role
  PoolSize : (object : TypeName) → Role
  ArraySize : Role
  Weight : Role
  JoinCount : (branches : ℕ) → Role
  -- a condition, guard, count or matched value of an activity
  Condition : Role
  -- of a constraint, or an inline one
  Constrains : Role
  -- of a body
  InBody : Role

pub data Use : Type 0 where
  -- an outermost expression as a whole
  Judges : (at : Environment) (role : Role) (expr : ExprTree) → Use
  -- a plain type, and the type of a field
  HasPlain : (at : Environment) (plain : PlainTree) → Use
  HasType : (at : Environment) (type : TypeTree) → Use
  -- the items of a `unique`
  Uniques : (items : List ExprTree) → Use
  -- the first tokens of the branches of a block with a join form
  Branches : (places : List Place) → Use
  -- the arms of a `match`
  Arms : (at : Environment) (labels : List ArmLabelTree) → Use
  -- a traversal, at the first token of its statement
  Performs : (at : Environment) (place : Place) (traversal : Traversal) → Use
  -- a bind of an activity
  Ties : (at : Environment) (first : EndNode) (others : List EndNode) → Use
  -- a call with so many arguments, whose answer is needed or dropped
  Passes : (component : Option Place) (name : Name) (arguments : ℕ) (needed : Bool) → Use
  -- a path in an expression
  Reads : (at : Environment) (first : PathPart) (rest : List PathPart) → Use
  -- the path of a `foreach`
  Repeats : (at : Environment) (first : PathPart) (rest : List PathPart) → Use
  -- E::A, C::E::A
  TakesItem : (at : Environment) (component : Option Name) (enum item : Name) → Use
  -- the name of a type
  NamesType : (component : Option Place) (wanted : Wanted) (name : TypeName) → Use
  -- the base of an action
  NamesBase : (action : Declaration) (name : TypeName) → Use
  -- the function of a call
  Calls : (component : Option Place) (name : Name) → Use
  -- what a value is assigned to
  Assigns : (at : Environment) (name : Name) → Use
  -- the handle of a traversal
  Traverses : (at : Environment) (name : Name) → Use
  -- an end of a bind of an activity
  Ends : (at : Environment) (handle reference : Name) → Use
  -- a branch that is joined, of a block with these labels
  Joins : (labels : List NameId) (name : Name) → Use
  -- the pool of a bind
  Binds : (component : Place) (pool : Name) → Use
  -- a target that it is bound to: instances, an action type, and a reference or claim
  Targets : (component : Place) (pool : Name) (instances : List Name) (action reference : Name) → Use

-- ---- expressions

abbrev pub part_of : PartTree → PathPart
part_of (MakePart name index) = record { name = name; index = has_index index }

abbrev pub parts_of : NextPartRow → List PathPart
parts_of NoNextPartRow = []
parts_of (MoreNextPartRow (MakeNextPart dot part) tail) = part_of part ∷ parts_of tail

abbrev mutual
  pub expr_uses : Environment → ExprTree → List Use
  expr_uses at (ExprUnary unary) = unary_uses at unary
  expr_uses at (ExprBinary left operator place right) = expr_uses at left ++ expr_uses at right
  expr_uses at (ExprIn left in_place opening ranges close) = expr_uses at left ++ ranges_uses at ranges

  pub unary_uses : Environment → UnaryTree → List Use
  unary_uses at (UnaryPrefix operator place operand) = unary_uses at operand
  unary_uses at (UnaryPrimary primary) = primary_uses at primary

  pub primary_uses : Environment → PrimaryTree → List Use
  primary_uses at (PrimaryNumber number) = []
  primary_uses at (PrimaryTrue place) = []
  primary_uses at (PrimaryFalse place) = []
  primary_uses at (PrimaryPath path) = path_uses at path
  primary_uses at (PrimaryGroup left expr right) = expr_uses at expr

  -- a path as a whole, and then its indices
  pub path_uses : Environment → PathTree → List Use
  path_uses at (PathDotted first rest) = Reads at (part_of first) (parts_of rest) ∷ (part_uses at first ++ next_part_uses at rest)
  path_uses at (PathItem first colons second) = TakesItem at None first second ∷ []
  path_uses at (PathLongItem first colons second more_colons third) = TakesItem at (Some first) second third ∷ []

  pub part_uses : Environment → PartTree → List Use
  part_uses at (MakePart name index) = index_uses at index

  pub index_uses : Environment → MaybeIndex → List Use
  index_uses at NoIndex = []
  index_uses at (SomeIndex (MakeIndex left expr right)) = expr_uses at expr

  pub next_part_uses : Environment → NextPartRow → List Use
  next_part_uses at NoNextPartRow = []
  next_part_uses at (MoreNextPartRow head tail) = dotted_uses at head ++ next_part_uses at tail

  pub dotted_uses : Environment → NextPartTree → List Use
  dotted_uses at (MakeNextPart dot part) = part_uses at part

  pub ranges_uses : Environment → RangesTree → List Use
  ranges_uses at (MakeRanges first rest) = range_uses at first ++ next_range_uses at rest

  pub range_uses : Environment → RangeTree → List Use
  range_uses at (RangeSingle expr) = expr_uses at expr
  range_uses at (RangeBetween low dots high) = expr_uses at low ++ expr_uses at high

  pub next_range_uses : Environment → NextRangeRow → List Use
  next_range_uses at NoNextRangeRow = []
  next_range_uses at (MoreNextRangeRow head tail) = comma_range_uses at head ++ next_range_uses at tail

  pub comma_range_uses : Environment → NextRangeTree → List Use
  comma_range_uses at (MakeNextRange comma range) = range_uses at range

-- an outermost expression: as a whole, and the names in it
abbrev pub whole_uses : Environment → Role → ExprTree → List Use
whole_uses at role expr = Judges at role expr ∷ expr_uses at expr

abbrev pub end_uses : Environment → RangeTree → List Use
end_uses at (RangeSingle expr) = whole_uses at RangeEnd expr
end_uses at (RangeBetween low dots high) = whole_uses at RangeEnd low ++ whole_uses at RangeEnd high

abbrev pub next_ends : NextRangeRow → List RangeTree
next_ends NoNextRangeRow = []
next_ends (MoreNextRangeRow (MakeNextRange comma range) tail) = range ∷ next_ends tail

-- the ranges of a type or an arm: each end is an outermost expression
abbrev pub ends_uses : Environment → RangesTree → List Use
ends_uses at (MakeRanges first rest) = flat_map (end_uses at) (first ∷ next_ends rest)

abbrev pub next_expr : NextExprTree → ExprTree
next_expr (MakeNextExpr comma expr) = expr

abbrev pub next_expr_uses : Environment → NextExprTree → List Use
next_expr_uses at t = whole_uses at Constrains (next_expr t)

abbrev pub option_uses : {X : Type 0} → (X → List Use) → Option X → List Use
option_uses f None = []
option_uses f (Some x) = f x

-- ---- types of fields

abbrev pub low_uses : Environment → LowTree → List Use
low_uses at (MakeLow colon expr) = whole_uses at LowestBit expr

abbrev pub width_uses : Environment → Bool → WidthTree → List Use
width_uses at signed (MakeWidth left expr low right) = whole_uses at (Width signed) expr ++ option_uses (low_uses at) low

abbrev pub plain_uses : Environment → PlainTree → List Use
plain_uses at (PlainInt place width) = HasPlain at (PlainInt place width) ∷ option_uses (width_uses at true) width
plain_uses at (PlainBit place width) = HasPlain at (PlainBit place width) ∷ option_uses (width_uses at false) width
plain_uses at (PlainBool place) = []

abbrev pub domain_uses : Environment → DomainTree → List Use
domain_uses at (MakeDomain in_place left ranges right) = ends_uses at ranges

abbrev pub type_uses : Environment → TypeTree → List Use
type_uses at (TypePlain plain domain) = HasType at (TypePlain plain domain) ∷ plain_uses at plain ++ option_uses (domain_uses at) domain
type_uses at (TypeNamed name domain) = HasType at (TypeNamed name domain) ∷ NamesType at.component AnEnum name ∷ option_uses (domain_uses at) domain

abbrev pub size_of_part : Environment → PartTree → List Use
size_of_part at (MakePart name NoIndex) = []
size_of_part at (MakePart name (SomeIndex (MakeIndex left expr right))) = whole_uses at ArraySize expr

abbrev pub field_uses : Environment → FieldTree → List Use
field_uses at (MakeField rand_place type first rest semicolon) = type_uses at type ++ flat_map (size_of_part at) (first ∷ map next_field_part rest)

-- ---- constraints

abbrev pub with_inner : Environment → Name → Environment
with_inner at name = record at { inner = name ∷ at.inner }

abbrev pub with_index : Environment → Option LabelNode → Environment
with_index at None = at
with_index at (Some label) = with_inner at label.name

abbrev pub plain_part : Name → PathPart
plain_part name = record { name = name; index = false }

abbrev mutual
  pub set_uses : Environment → ConstraintTree → List Use
  set_uses at (ConstraintOne item) = item_uses at item
  set_uses at (ConstraintBlock left items right) = item_row_uses at items

  pub item_uses : Environment → ConstraintItemTree → List Use
  item_uses at (ConstraintItemEmpty place) = []
  item_uses at (ConstraintItemExpr expr semicolon) = whole_uses at Constrains expr
  item_uses at (ConstraintItemImplies condition arrow set) = whole_uses at Constrains condition ++ set_uses at set
  item_uses at (ConstraintItemIf word left condition right then_part) = whole_uses at Constrains condition ++ set_uses at then_part
  item_uses at (ConstraintItemIfElse word left condition right then_part else_place otherwise) = whole_uses at Constrains condition ++ (set_uses at then_part ++ set_uses at otherwise)
  item_uses at (ConstraintItemUnique word left first rest right semicolon) = Uniques (first ∷ map next_expr rest) ∷ whole_uses at Constrains first ++ flat_map (next_expr_uses at) rest
  item_uses at (ConstraintItemForeach word left first rest opening index close right set) =
      Repeats at (plain_part first) (map (λ d. plain_part d.name) rest) ∷ set_uses (with_inner at index) set

  pub item_row_uses : Environment → ConstraintItemRow → List Use
  item_row_uses at NoConstraintItemRow = []
  item_row_uses at (MoreConstraintItemRow head tail) = item_uses at head ++ item_row_uses at tail

-- ---- activities

-- a traversal of a handle, where it stands
abbrev pub by_handle : Environment → Name → Traversal
by_handle at name = ByHandle (inner_named at.inner name.id) name

abbrev pub with_uses : Environment → Traversal → WithTree → List Use
with_uses at traversal (WithNothing place) = []
with_uses at traversal (WithSet with_place set) = set_uses (record at { traversal = Some traversal }) set

abbrev pub label_of : StatementTree → Option NameId
label_of (StatementEmpty place) = None
label_of (StatementLabeled label (CoreBind bind)) = None
label_of (StatementLabeled label core) = Some label.name.id
label_of (StatementPlain core) = None

abbrev pub row_labels : StatementRow → List (Option NameId)
row_labels NoStatementRow = []
row_labels (MoreStatementRow head tail) = label_of head ∷ row_labels tail

abbrev pub labels_in : StatementRow → List NameId
labels_in statements = filter_map (λ label. label) (row_labels statements)

-- a branch is a statement other than `;` and `bind`
abbrev pub is_branch : StatementTree → Bool
is_branch (StatementEmpty place) = false
is_branch (StatementLabeled label (CoreBind bind)) = false
is_branch (StatementPlain (CoreBind bind)) = false
is_branch _ = true

abbrev pub branches_in : StatementRow → ℕ
branches_in NoStatementRow = 0
branches_in (MoreStatementRow head tail) = (if is_branch head then 1 else 0) + branches_in tail

abbrev pub join_uses : Environment → List NameId → ℕ → JoinTree → List Use
join_uses at labels branches (JoinBranch word left names right) = map (Joins labels) (names_of names)
join_uses at labels branches (JoinNothing place) = []
join_uses at labels branches (JoinSelect word left count right) = whole_uses at (JoinCount branches) count

abbrev pub end_use : Environment → EndNode → Use
end_use at end = Ends at end.handle end.name

abbrev pub other_ends : OtherEndsTree → List EndNode
other_ends (OtherEndsOne end) = end ∷ []
other_ends (OtherEndsSeveral left first rest right) = first ∷ map (λ n. n.end) rest

abbrev pub bind_uses : Environment → BindTree → List Use
bind_uses at (MakeBind word first others semicolon) = Ties at first (other_ends others) ∷ map (end_use at) (first ∷ other_ends others)

abbrev pub weight_uses : Environment → WeightTree → List Use
weight_uses at (MakeWeight left expr right) = whole_uses at Weight expr

abbrev pub guard_uses : Environment → GuardTree → List Use
guard_uses at (GuardCondition left condition right weight colon) = whole_uses at Condition condition ++ option_uses (weight_uses at) weight
guard_uses at (GuardWeight weight colon) = weight_uses at weight

abbrev pub core_place : CoreTree → Place
core_place (CoreDo do_place name with_part) = do_place
core_place (CoreHandle name with_part) = name.place
core_place (CoreSequence (Some word) left statements right) = word
core_place (CoreSequence None left statements right) = left
core_place (CoreTogether word place join left statements right) = place
core_place (CoreSelect word left first rest right) = word
core_place (CoreRepeat word left index count right statement) = word
core_place (CoreIf word left condition right then_part) = word
core_place (CoreIfElse word left condition right then_part else_place otherwise) = word
core_place (CoreMatch word left expr right opening first rest close) = word
core_place (CoreBind (MakeBind word first others semicolon)) = word

-- a traversal is a statement of its own
abbrev pub performed : Environment → Place → CoreTree → List Use
performed at place (CoreDo do_place name with_part) = Performs at place (ByType name) ∷ []
performed at place (CoreHandle name with_part) = Performs at place (by_handle at name) ∷ []
performed at place _ = []

abbrev pub arm_label : ArmTree → ArmLabelTree
arm_label (MakeArm label colon statement) = label

abbrev pub arm_labels : ArmRow → List ArmLabelTree
arm_labels NoArmRow = []
arm_labels (MoreArmRow head tail) = arm_label head ∷ arm_labels tail

abbrev pub statement_place : StatementTree → Place
statement_place (StatementEmpty place) = place
statement_place (StatementLabeled label core) = label.name.place
statement_place (StatementPlain core) = core_place core

abbrev pub branch_places : StatementRow → List Place
branch_places NoStatementRow = []
branch_places (MoreStatementRow head tail) = if is_branch head then statement_place head ∷ branch_places tail else branch_places tail

abbrev pub arm_label_uses : Environment → ArmLabelTree → List Use
arm_label_uses at (ArmLabelRanges left ranges right) = ends_uses at ranges
arm_label_uses at (ArmLabelDefault place) = []

abbrev mutual
  pub statement_uses : Environment → StatementTree → List Use
  statement_uses at (StatementEmpty place) = []
  statement_uses at (StatementLabeled label core) = performed at label.name.place core ++ core_uses at core
  statement_uses at (StatementPlain core) = performed at (core_place core) core ++ core_uses at core

  pub core_uses : Environment → CoreTree → List Use
  core_uses at (CoreDo do_place name with_part) = NamesType at.component AnAction name ∷ with_uses at (ByType name) with_part
  core_uses at (CoreHandle name with_part) = Traverses at name ∷ with_uses at (by_handle at name) with_part
  core_uses at (CoreSequence word left statements right) = statement_row_uses at statements
  core_uses at (CoreTogether word place join left statements right) = option_uses (λ j. Branches (branch_places statements) ∷ join_uses at (labels_in statements) (branches_in statements) j) join ++ statement_row_uses at statements
  core_uses at (CoreSelect word left first rest right) = branch_uses at first ++ branch_row_uses at rest
  core_uses at (CoreRepeat word left index count right statement) = whole_uses at Condition count ++ statement_uses (with_index at index) statement
  core_uses at (CoreIf word left condition right then_part) = whole_uses at Condition condition ++ statement_uses at then_part
  core_uses at (CoreIfElse word left condition right then_part else_place otherwise) = whole_uses at Condition condition ++ (statement_uses at then_part ++ statement_uses at otherwise)
  core_uses at (CoreMatch word left expr right opening first rest close) = Arms at (arm_label first ∷ arm_labels rest) ∷ whole_uses at Condition expr ++ (arm_uses at first ++ arm_row_uses at rest)
  core_uses at (CoreBind bind) = bind_uses at bind

  pub branch_uses : Environment → BranchTree → List Use
  branch_uses at (MakeBranch guard statement) = option_uses (guard_uses at) guard ++ statement_uses at statement

  pub arm_uses : Environment → ArmTree → List Use
  arm_uses at (MakeArm label colon statement) = arm_label_uses at label ++ statement_uses at statement

  pub statement_row_uses : Environment → StatementRow → List Use
  statement_row_uses at NoStatementRow = []
  statement_row_uses at (MoreStatementRow head tail) = statement_uses at head ++ statement_row_uses at tail

  pub branch_row_uses : Environment → BranchRow → List Use
  branch_row_uses at NoBranchRow = []
  branch_row_uses at (MoreBranchRow head tail) = branch_uses at head ++ branch_row_uses at tail

  pub arm_row_uses : Environment → ArmRow → List Use
  arm_row_uses at NoArmRow = []
  arm_row_uses at (MoreArmRow head tail) = arm_uses at head ++ arm_row_uses at tail

abbrev pub activity_uses : Environment → ActivityTree → List Use
activity_uses at (MakeActivity word left statements right) = flat_map (statement_uses at) statements

-- ---- bodies

abbrev pub arguments_of : Option ArgumentsTree → List ExprTree
arguments_of None = []
arguments_of (Some (MakeArguments first rest)) = first ∷ map next_expr rest

abbrev pub call_uses : Environment → Bool → CallTree → List Use
call_uses at needed (MakeCall name left arguments right) = Calls at.component name ∷ Passes at.component name (length (arguments_of arguments)) needed ∷ flat_map (whole_uses at InBody) (arguments_of arguments)

abbrev pub source_uses : Environment → SourceTree → List Use
source_uses at (SourceCall call) = call_uses at true call
source_uses at (SourceExpr expr) = whole_uses at InBody expr

abbrev pub value_uses : Environment → ValueTree → List Use
value_uses at (MakeValue equal source) = source_uses at source

-- a local's scope begins behind its declaration
abbrev pub behind_statement : Environment → BodyStatementTree → Environment
behind_statement at (BodyStatementLocal plain name value semicolon) = with_inner at name
behind_statement at _ = at

abbrev mutual
  pub body_statement_uses : Environment → BodyStatementTree → List Use
  body_statement_uses at (BodyStatementEmpty place) = []
  body_statement_uses at (BodyStatementLocal plain name value semicolon) = plain_uses at plain ++ option_uses (value_uses at) value
  body_statement_uses at (BodyStatementAssign name equal source semicolon) = Assigns at name ∷ source_uses at source
  body_statement_uses at (BodyStatementCall call semicolon) = call_uses at false call
  body_statement_uses at (BodyStatementBlock left statements right) = body_row_uses at statements
  body_statement_uses at (BodyStatementIf word left condition right then_part) = whole_uses at InBody condition ++ body_statement_uses at then_part
  body_statement_uses at (BodyStatementIfElse word left condition right then_part else_place otherwise) = whole_uses at InBody condition ++ (body_statement_uses at then_part ++ body_statement_uses at otherwise)
  body_statement_uses at (BodyStatementRepeat word left index count right statement) = whole_uses at InBody count ++ body_statement_uses (with_index at index) statement

  pub body_row_uses : Environment → BodyStatementRow → List Use
  body_row_uses at NoBodyStatementRow = []
  body_row_uses at (MoreBodyStatementRow head tail) = body_statement_uses at head ++ body_row_uses (behind_statement at head) tail

abbrev pub body_list_uses : Environment → List BodyStatementTree → List Use
body_list_uses at [] = []
body_list_uses at (s ∷ more) = body_statement_uses at s ++ body_list_uses (behind_statement at s) more

abbrev pub body_uses : Environment → BodyTree → List Use
body_uses at (MakeBody exec_place body left statements right) = body_list_uses at statements

-- ---- declarations

abbrev pub constraint_uses : Environment → ConstraintDeclarationTree → List Use
constraint_uses at (MakeConstraintDeclaration word (ConstraintContentNamed name left items right)) = flat_map (item_uses at) items
constraint_uses at (MakeConstraintDeclaration word (ConstraintContentSet set)) = set_uses at set

abbrev pub action_part_uses : Environment → ActionPartTree → List Use
action_part_uses at (ActionPartField field) = field_uses at field
action_part_uses at (ActionPartReference (MakeReference word place object names semicolon)) = NamesType at.component AnObject object ∷ []
action_part_uses at (ActionPartClaim (MakeClaim word place object names semicolon)) = NamesType at.component AnObject object ∷ []
action_part_uses at (ActionPartMembers (MakeMembers type names semicolon)) = NamesType at.component AnAction type ∷ []
action_part_uses at (ActionPartConstraint constraint) = constraint_uses at constraint
action_part_uses at (ActionPartActivity activity) = activity_uses at activity
action_part_uses at (ActionPartBody body) = body_uses at body
action_part_uses at (ActionPartEmpty place) = []

abbrev pub environment : Option Place → Owner → Environment
environment component owner = record { component = component; owner = owner; inner = []; traversal = None }

abbrev pub action_uses : Place → ActionTree → List Use
action_uses component (MakeAction abstract_place word name base left parts right) =
    let action = action_declared component base name in
    option_uses (λ b. NamesBase action (base_name b) ∷ []) base ++ flat_map (action_part_uses (environment (Some component) (OfAction action))) parts

abbrev pub object_part_uses : Environment → ObjectPartTree → List Use
object_part_uses at (ObjectPartField field) = field_uses at field
object_part_uses at (ObjectPartConstraint constraint) = constraint_uses at constraint
object_part_uses at (ObjectPartEmpty place) = []

abbrev pub object_uses : Option Place → ObjectTree → List Use
object_uses component (MakeObject word place name left parts right) =
    flat_map (object_part_uses (environment component (OfObject (type_declared component (sort.Object word) name)))) parts

abbrev pub enum_value_uses : Option Place → EnumItemTree → List Use
enum_value_uses component (MakeEnumItem name None) = []
enum_value_uses component (MakeEnumItem name (Some (MakeEnumValue equal expr))) = whole_uses (environment component Nobody) EnumValue expr

abbrev pub enum_uses : Option Place → EnumTree → List Use
enum_uses component (MakeEnum word name left first rest right) = flat_map (enum_value_uses component) (first ∷ map next_item rest)

abbrev pub answer_uses : Option Place → AnswerTree → List Use
answer_uses component (AnswerVoid place) = []
answer_uses component (AnswerPlain plain) = plain_uses (environment component Nobody) plain

abbrev pub parameter_uses : Option Place → ParameterTree → List Use
parameter_uses component (MakeParameter input plain name) = plain_uses (environment component Nobody) plain

abbrev pub function_uses : Option Place → FunctionTree → List Use
function_uses component (MakeFunction import_place target_place word answer name left parameters right semicolon) =
    answer_uses component answer ++ flat_map (parameter_uses component) (parameters_of parameters)

abbrev pub size_uses : Option Place → TypeName → SizeTree → List Use
size_uses component object (MakeSize left expr right) = whole_uses (environment component Nobody) (PoolSize object) expr

-- read from the end: a reference or claim, an action type, instances
abbrev pub target_by : Place → Name → List Name → Name → Name → List DotName → Use
target_by component pool instances action reference [] = Targets component pool instances action reference
target_by component pool instances action reference (d ∷ more) = target_by component pool (instances ++ action ∷ []) reference d.name more

abbrev pub target_use : Place → Name → TargetTree → Use
target_use component pool (MakeTarget first second rest) = target_by component pool [] first second.name rest

abbrev pub next_target : NextTargetTree → TargetTree
next_target (MakeNextTarget comma target) = target

abbrev pub targets_of : TargetsTree → List TargetTree
targets_of (TargetsAll place) = []
targets_of (TargetsOne target) = target ∷ []
targets_of (TargetsSeveral left first rest right) = first ∷ map next_target rest

abbrev pub component_part_uses : Place → ComponentPartTree → List Use
component_part_uses c (ComponentPartAction action) = action_uses c action
component_part_uses c (ComponentPartObject object) = object_uses (Some c) object
component_part_uses c (ComponentPartEnum enum) = enum_uses (Some c) enum
component_part_uses c (ComponentPartFunction function) = function_uses (Some c) function
component_part_uses c (ComponentPartPool (MakePool pool size object name semicolon)) = option_uses (size_uses (Some c) object) size ++ NamesType (Some c) AnObject object ∷ []
component_part_uses c (ComponentPartPoolBind (MakePoolBind word pool targets semicolon)) = Binds c pool ∷ map (target_use c pool) (targets_of targets)
component_part_uses c (ComponentPartMembers (MakeMembers type names semicolon)) = NamesType (Some c) AComponent type ∷ []
component_part_uses c (ComponentPartEmpty place) = []

abbrev pub component_uses : ComponentTree → List Use
component_uses (MakeComponent word name left parts right) = flat_map (component_part_uses name.place) parts

abbrev pub unit_item_uses : ItemTree → List Use
unit_item_uses (ItemComponent component) = component_uses component
unit_item_uses (ItemObject object) = object_uses None object
unit_item_uses (ItemEnum enum) = enum_uses None enum
unit_item_uses (ItemFunction function) = function_uses None function
unit_item_uses (ItemEmpty place) = []

abbrev pub unit_uses : UnitTree → List Use
unit_uses (MakeUnit items finish) = flat_map unit_item_uses items

abbrev pub uses : List UnitTree → List Use
uses units = flat_map unit_uses units
