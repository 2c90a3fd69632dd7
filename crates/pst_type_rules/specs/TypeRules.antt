-- The rules of types: what breaks each of them, and where. The numbers of the rules are this project's own.
use Rattle.std.specs.Prelude.{◌≡◌, ◌≢◌, ℕ, ◌+◌, ◌<◌, ◌≤◌, ℤ, pos, ◌<ℤ◌, Bool, true, false, IsTrue, IsFalse, List, [], ◌∷◌, ◌++◌, length, Option, Some, None}
use Rattle.std.specs.List.{flat_map, Contains}
use Rattle.std.specs.Option.{option_map_or, option_and_then, option_map}
use Rattle.pst_base.specs.declared.position.Place.{Place}
use Rattle.pst_ast.specs.declared.leaf.Name.{Name}
use Rattle.pst_ast.specs.declared.shared.TypeName.{TypeName}
use Rattle.pst_ast.specs.declared.activity.EndNode.{EndNode}
use Rattle.pst_ast.specs.ExpressionTree.{ExprTree, RangeTree}
use Rattle.pst_ast.specs.SharedTree.{LowTree, MakeLow, WidthTree, MakeWidth, PlainTree, PlainInt, PlainBit, PlainBool, TypeTree}
use Rattle.pst_ast.specs.ActivityTree.{ArmLabelTree, ArmLabelRanges, ArmLabelDefault, StatementTree}
use Rattle.pst_ast.specs.DeclarationTree.{UnitTree, AnswerVoid}
use Rattle.pst_expr.specs.declared.ranges.Span.{Span}
use Rattle.pst_expr.specs.Spans.{IsInSpan}
use Rattle.pst_model.specs.Limits.{most_fields, most_branches}
use Rattle.pst_ast.specs.declared.scope_declaration.Declaration.{Declaration}
use Rattle.pst_ast.specs.declared.scope_declaration.Sort.{Sort}
use Rattle.pst_ast.specs.declared.scope_declaration.Sort.TheVariants as sort
use Rattle.pst_ast.specs.declared.environment.Environment.{Environment}
use Rattle.pst_ast.specs.declared.referent.Traversal.{Traversal}
use Rattle.pst_ast.specs.declared.referent.Referent.{Referent}
use Rattle.pst_ast.specs.declared.referent.Referent.TheVariants.{Declared}
use Rattle.pst_ast.specs.declared.referent.PathPart.{PathPart}
use Rattle.pst_ast.specs.declared.referent.Target.{Target}
use Rattle.pst_ast.specs.declared.referent.Checked.TheVariants.{Is}
use Rattle.pst_ast.specs.Declarations.{declarations}
use Rattle.pst_ast.specs.Sorts.{is_pool, is_field, is_resource, is_reference, is_claim, is_handle, is_need}
use Rattle.pst_ast.specs.Lookups.{type_here, type_named, type_in, type_of, traversed, stands_for}
use Rattle.pst_ast.specs.Uses.{Use, Judges, HasPlain, HasType, Uniques, Branches, Arms, Performs, Ties, Passes, Reads, Assigns, Targets, Role, Condition, Constrains, InBody, PoolSize, expr_uses, uses}
use Rattle.pst_ast.specs.NameRules.{named_in, target_of}
use Rattle.pst_type_rules.specs.Enums.{DeclaredItem, DeclaredEnum, enums}
use Rattle.pst_type_rules.specs.Constants.{IsItemValue, IsConstant}
use Rattle.pst_type_rules.specs.Domains.{HasWidth, IsSpanOf, IsInType, IsKnown, ranges_of, ranges_in}
use Rattle.pst_type_rules.specs.Places.{expr_place, range_place, plain_place, type_place, ins}
use Rattle.pst_type_rules.specs.Sites.{DeclaredAction, DeclaredFunction, action_at, function_at}
use Rattle.pst_type_rules.specs.Members.{AreMembers, those_that, IsCompound, IsTwofold}
use Rattle.pst_type_rules.specs.Limits.{most_unique, enum_values, limits_of, widths_of, is_local, IsLimited, AddsFields, AddTogether}
use Rattle.pst_type_rules.specs.Handles.{Mention, mentions, IsJudgedBy, IsSteadyIn}
use Rattle.pst_type_rules.specs.Binds.{Pair, pairs, reference_at, AreEnds, BindTwice}

-- ---- parts

abbrev pub width_in : PlainTree → Option WidthTree
width_in (PlainInt place width) = width
width_in (PlainBit place width) = width
width_in (PlainBool place) = None

abbrev pub lowest_of : LowTree → ExprTree
lowest_of (MakeLow colon expr) = expr

-- the second part of a width
abbrev pub lowest_in : WidthTree → Option ExprTree
lowest_in (MakeWidth left expr low right) = option_map lowest_of low

abbrev pub ranges_of_label : ArmLabelTree → List RangeTree
ranges_of_label (ArmLabelRanges left ranges right) = ranges_of ranges
ranges_of_label (ArmLabelDefault place) = []

-- the ranges of a `match`, those of all its arms
abbrev pub ranges_of_arms : List ArmLabelTree → List RangeTree
ranges_of_arms labels = flat_map ranges_of_label labels

-- a part that must be constant
abbrev pub is_constant : Role → Bool
is_constant Condition = false
is_constant Constrains = false
is_constant InBody = false
is_constant _ = true

-- what the conditions of an activity may name: fields, indices and enum items
abbrev pub is_condition_sort : Sort → Bool
is_condition_sort (sort.Field array) = true
is_condition_sort (sort.Item level) = true
is_condition_sort sort.Index = true
is_condition_sort _ = false

-- what is declared, as something of such a sort
abbrev pub is_declared : (Sort → Bool) → Referent → Bool
is_declared test (Declared d) = test d.sort
is_declared test _ = false

-- the first name of a target
abbrev pub first_name : List Name → Name → Name
first_name [] action = action
first_name (i ∷ more) action = i

-- ---- uses

pub data UseBreaks (units : List UnitTree) (names : List (List ℕ)) : Use → Place → ℕ → Type 0 where
  -- a width is outside its limits, or its second part isn't 0: the type
  WidthOutside : (at : Environment) (plain : PlainTree) (width : WidthTree) (w : ℤ) → width_in plain ≡ Some width → HasWidth units names at width w → (IsInSpan w (widths_of plain) → ⊥)
      → UseBreaks units names (HasPlain at plain) (plain_place plain) 9
  LowestNotZero : (at : Environment) (plain : PlainTree) (expr : ExprTree) (v : ℤ) → option_and_then lowest_in (width_in plain) ≡ Some expr → IsConstant units names at expr v → v ≢ pos 0
      → UseBreaks units names (HasPlain at plain) (plain_place plain) 9
  -- a range of a domain or of a `match` is reversed: the range
  ReversedInDomain : (at : Environment) (type : TypeTree) (range : RangeTree) (s : Span) → Contains (ranges_in type) range → IsSpanOf units names at range s → s.high <ℤ s.low
      → UseBreaks units names (HasType at type) (range_place range) 10
  ReversedInMatch : (at : Environment) (labels : List ArmLabelTree) (range : RangeTree) (s : Span) → Contains (ranges_of_arms labels) range → IsSpanOf units names at range s → s.high <ℤ s.low
      → UseBreaks units names (Arms at labels) (range_place range) 10
  -- a type whose parts are known has no value: the type
  Empty : (at : Environment) (type : TypeTree) → IsKnown units names at type → ((v : ℤ) → IsInType units names at type v → ⊥) → UseBreaks units names (HasType at type) (type_place type) 10
  -- an `in` stands in the left part of another `in`: the inner `in`
  InnerIn : (at : Environment) (role : Role) (expr : ExprTree) (place : Place) → Contains (ins false expr) place → UseBreaks units names (Judges at role expr) place 10
  -- a constant part names something else than enum items, or has no value: the expression
  NotConstant : (at : Environment) (role : Role) (expr : ExprTree) → IsTrue (is_constant role) → ((v : ℤ) → IsConstant units names at expr v → ⊥)
      → UseBreaks units names (Judges at role expr) (expr_place expr) 11
  -- a constant part is outside its limits: the expression
  ValueOutside : (at : Environment) (role : Role) (expr : ExprTree) (limits : Span) (v : ℤ) → limits_of role ≡ Some limits → IsConstant units names at expr v → (IsInSpan v limits → ⊥)
      → UseBreaks units names (Judges at role expr) (expr_place expr) 12
  -- a `unique` has too many items, or a block with a join form too many branches: the first too many
  ManyItems : (items front more : List ExprTree) (item : ExprTree) → items ≡ front ++ item ∷ more → length front ≡ most_unique → UseBreaks units names (Uniques items) (expr_place item) 12
  ManyBranches : (places front more : List Place) (branch : Place) → places ≡ front ++ branch ∷ more → length front ≡ most_branches → UseBreaks units names (Branches places) branch 12
  -- two ranges of a `match` have a value in common, or there are two defaults: the later one
  Meeting : (at : Environment) (labels : List ArmLabelTree) (front more : List RangeTree) (earlier later : RangeTree) (s t : Span) (v : ℤ) → ranges_of_arms labels ≡ front ++ later ∷ more
      → Contains front earlier → IsSpanOf units names at earlier s → IsSpanOf units names at later t → IsInSpan v s → IsInSpan v t → UseBreaks units names (Arms at labels) (range_place later) 13
  TwoDefaults : (at : Environment) (labels front more : List ArmLabelTree) (first second : Place) → labels ≡ front ++ ArmLabelDefault second ∷ more → Contains front (ArmLabelDefault first)
      → UseBreaks units names (Arms at labels) second 13
  -- a pool that isn't of resources has a size: the size
  SizeOfNoResources : (at : Environment) (object : TypeName) (expr : ExprTree) (type : Declaration) → type_named (declarations units) at.component object ≡ Some type → IsFalse (is_resource type.sort)
      → UseBreaks units names (Judges at (PoolSize object) expr) (expr_place expr) 14
  -- an abstract action is traversed: the statement
  AbstractTraversed : (at : Environment) (place : Place) (traversal : Traversal) (d : Declaration) (a : DeclaredAction) → traversed (declarations units) names at traversal ≡ Some d
      → action_at units d.name.place ≡ Some a → IsTrue a.is_abstract → UseBreaks units names (Performs at place traversal) place 17
  -- a condition, guard, count or matched value of an activity names something else than fields, indices and enum items: the name
  NotInCondition : (at env : Environment) (expr : ExprTree) (first : PathPart) (rest : List PathPart) (r : Referent) → Contains (expr_uses at expr) (Reads env first rest)
      → stands_for (declarations units) names env first.name.id ≡ Some r → IsFalse (is_declared is_condition_sort r) → UseBreaks units names (Judges at Condition expr) first.name.place 19
  -- a bind of an activity doesn't go from an output to an input of one object type, or joins two ends of one handle: the later end
  UnfitEnds : (at : Environment) (first other : EndNode) (others : List EndNode) (x y : Declaration) → Contains others other → reference_at (declarations units) names at first ≡ Some x
      → reference_at (declarations units) names at other ≡ Some y → (AreEnds (declarations units) x y → ⊥) → UseBreaks units names (Ties at first others) other.handle.place 20
  OneHandle : (at : Environment) (first other : EndNode) (others : List EndNode) → Contains others other → first.handle.id ≡ other.handle.id → UseBreaks units names (Ties at first others) other.handle.place 20
  -- a bind of a pool names a reference or claim of another object type: the target
  OtherObject : (component : Place) (pool : Name) (instances : List Name) (action reference : Name) (p x y : Declaration) (target : Target) → named_in (declarations units) component is_pool pool ≡ Some p
      → target_of (declarations units) component instances action reference ≡ Is target → type_of (declarations units) p ≡ Some x → type_of (declarations units) target.need ≡ Some y → x ≢ y
      → UseBreaks units names (Targets component pool instances action reference) (first_name instances action).place 20
  -- a call has the wrong number of arguments, or a `void` function gives a value: the name
  WrongArguments : (component : Option Place) (name : Name) (arguments : ℕ) (needed : Bool) (d : Declaration) (f : DeclaredFunction) → type_here (declarations units) component name.id ≡ Some d
      → function_at units d.name.place ≡ Some f → arguments ≢ length f.parameters → UseBreaks units names (Passes component name arguments needed) name.place 21
  NoAnswer : (component : Option Place) (name : Name) (arguments : ℕ) (d : Declaration) (f : DeclaredFunction) (void : Place) → type_here (declarations units) component name.id ≡ Some d
      → function_at units d.name.place ≡ Some f → f.answer ≡ AnswerVoid void → UseBreaks units names (Passes component name arguments true) name.place 21
  -- an assignment is to something else than a local: the name
  NoLocal : (at : Environment) (name : Name) (r : Referent) → stands_for (declarations units) names at name.id ≡ Some r → IsFalse (is_declared is_local r) → UseBreaks units names (Assigns at name) name.place 21

-- ---- enums

-- the expression of an item, or its name where it has none
abbrev pub item_place : DeclaredItem → Place
item_place i = option_map_or expr_place i.expr i.name.place

pub data EnumBreaks (units : List UnitTree) (names : List (List ℕ)) (e : DeclaredEnum) : Place → ℕ → Type 0 where
  -- an item without an expression is outside its limits (of one with an expression this is judged at its use)
  ItemOutside : (i : DeclaredItem) (v : ℤ) → Contains e.items i → i.expr ≡ None → IsItemValue units names i.name.place v → (IsInSpan v enum_values → ⊥) → EnumBreaks units names e i.name.place 12
  -- two items have one value: the later one
  SameValue : (front more : List DeclaredItem) (earlier later : DeclaredItem) (v : ℤ) → e.items ≡ front ++ later ∷ more → Contains front earlier → IsItemValue units names earlier.name.place v
      → IsItemValue units names later.name.place v → EnumBreaks units names e (item_place later) 12

-- ---- declarations

pub data DeclarationBreaks (units : List UnitTree) (names : List (List ℕ)) (d : Declaration) : Place → ℕ → Type 0 where
  -- a type has too many of something, those of its base counted first: the first too many
  TooMany : (counted front more : List Declaration) (m : Declaration) (most : ℕ) → IsLimited (declarations units) d counted most → counted ≡ front ++ m ∷ more → length front ≡ most
      → DeclarationBreaks units names d m.name.place 12
  -- or too many fields: that with which they exceed their limit
  ManyFields : (members front more : List Declaration) (m : Declaration) (n k : ℕ) → AreMembers (declarations units) d members → those_that is_field members ≡ front ++ m ∷ more
      → AddTogether units names front n → AddsFields units names m k → n ≤ most_fields → most_fields < n + k → DeclarationBreaks units names d m.name.place 12
  -- a reference is of a resource, or a claim of something else: the type name
  ReferenceOfResource : (type : Declaration) (name : TypeName) → IsTrue (is_reference d.sort) → type_in d.sort ≡ Some name → type_of (declarations units) d ≡ Some type → IsTrue (is_resource type.sort)
      → DeclarationBreaks units names d name.first.place 15
  ClaimOfNoResource : (type : Declaration) (name : TypeName) → IsTrue (is_claim d.sort) → type_in d.sort ≡ Some name → type_of (declarations units) d ≡ Some type → IsFalse (is_resource type.sort)
      → DeclarationBreaks units names d name.first.place 15
  -- with what it inherits an action has two activities, two bodies, or one of each: its name
  Twofold : IsTwofold units d → DeclarationBreaks units names d d.name.place 16
  -- with what it inherits it has an activity, and a reference or claim: its name
  CompoundWithNeed : (statements : List StatementTree) (members : List Declaration) (m : Declaration) → IsCompound units d statements → AreMembers (declarations units) d members → Contains members m
      → IsTrue (is_need m.sort) → DeclarationBreaks units names d d.name.place 16

-- ---- the rules

-- The sources break the rule at the place.
pub data TypeBreach (units : List UnitTree) (names : List (List ℕ)) : Place → ℕ → Type 0 where
  OfUse : (u : Use) (place : Place) (rule : ℕ) → Contains (uses units) u → UseBreaks units names u place rule → TypeBreach units names place rule
  OfEnum : (e : DeclaredEnum) (place : Place) (rule : ℕ) → Contains (enums units) e → EnumBreaks units names e place rule → TypeBreach units names place rule
  OfDeclaration : (d : Declaration) (place : Place) (rule : ℕ) → Contains (declarations units) d → DeclarationBreaks units names d place rule → TypeBreach units names place rule
  -- a constraint, inline constraint, body or bind of an activity names a handle that isn't traversed exactly once, or is so within a `select`, `repeat`, `if` or `match`: the name
  Unsteady : (u : Use) (m : Mention) (handle action : Declaration) → Contains (uses units) u → Contains (mentions u) m → stands_for (declarations units) names m.at m.name.id ≡ Some (Declared handle)
      → IsTrue (is_handle handle.sort) → IsJudgedBy units names m action → (IsSteadyIn units action m.name.id → ⊥) → TypeBreach units names m.name.place 18
  -- an activity binds an input twice, or the output of a stream: the later end of the later pair
  BoundTwice : (front more : List Pair) (earlier later : Pair) → pairs units ≡ front ++ later ∷ more → Contains front earlier → BindTwice (declarations units) names earlier later
      → TypeBreach units names later.other.handle.place 20
