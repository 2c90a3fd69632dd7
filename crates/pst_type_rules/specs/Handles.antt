-- Which handles are traversed exactly once in each fill of an activity, and where handles are named.
use Rattle.std.specs.Prelude.{◌≡◌, ℕ, Bool, true, false, not, List, [], ◌∷◌, ◌++◌, map, if◌then◌else◌, Option, Some, None, is_some, IsTrue}
use Rattle.std.specs.List.{flat_map, filter_map, Contains}
use Rattle.pst_base.specs.declared.table.NameId.{NameId}
use Rattle.pst_ast.specs.declared.leaf.Name.{Name}
use Rattle.pst_ast.specs.ExpressionTree.{ExprTree}
use Rattle.pst_ast.specs.ActivityTree.{StatementTree, StatementEmpty, StatementLabeled, StatementPlain, CoreTree, CoreDo, CoreHandle, CoreSequence, CoreTogether, CoreSelect, CoreRepeat, CoreIf, CoreIfElse, CoreMatch, CoreBind, BranchTree, MakeBranch, ArmTree, MakeArm, StatementRow, NoStatementRow, MoreStatementRow, BranchRow, NoBranchRow, MoreBranchRow, ArmRow, NoArmRow, MoreArmRow}
use Rattle.pst_ast.specs.DeclarationTree.{UnitTree}
use Rattle.pst_ast.specs.declared.scope_declaration.Declaration.{Declaration}
use Rattle.pst_ast.specs.declared.environment.Environment.{Environment}
use Rattle.pst_ast.specs.declared.referent.Owner.TheVariants.{OfAction}
use Rattle.pst_ast.specs.declared.referent.Traversal.{Traversal}
use Rattle.pst_ast.specs.Declarations.{declarations}
use Rattle.pst_ast.specs.Sorts.{same_name}
use Rattle.pst_ast.specs.Lookups.{member_of, traversed, traversed_member}
use Rattle.pst_ast.specs.Uses.{Use, Judges, Reads, Repeats, Ends, Assigns, Constrains, InBody, expr_uses}
use Rattle.pst_type_rules.specs.Members.{IsOrDerives, IsCompound}

-- ---- traversals of a handle

-- one entry for each: whether it stands within a `select`, `repeat`, `if` or `match`
abbrev mutual
  pub traversals : NameId → Bool → StatementTree → List Bool
  traversals handle within (StatementEmpty place) = []
  traversals handle within (StatementLabeled label core) = core_traversals handle within core
  traversals handle within (StatementPlain core) = core_traversals handle within core

  pub core_traversals : NameId → Bool → CoreTree → List Bool
  core_traversals handle within (CoreDo do_place name with_part) = []
  core_traversals handle within (CoreHandle name with_part) = if same_name name.id handle then within ∷ [] else []
  core_traversals handle within (CoreSequence word left statements right) = row_traversals handle within statements
  core_traversals handle within (CoreTogether word place join left statements right) = row_traversals handle within statements
  core_traversals handle within (CoreSelect word left first rest right) = branch_traversals handle first ++ branch_row_traversals handle rest
  core_traversals handle within (CoreRepeat word left index count right statement) = traversals handle true statement
  core_traversals handle within (CoreIf word left condition right then_part) = traversals handle true then_part
  core_traversals handle within (CoreIfElse word left condition right then_part else_place otherwise) = traversals handle true then_part ++ traversals handle true otherwise
  core_traversals handle within (CoreMatch word left expr right opening first rest close) = arm_traversals handle first ++ arm_row_traversals handle rest
  core_traversals handle within (CoreBind bind) = []

  pub row_traversals : NameId → Bool → StatementRow → List Bool
  row_traversals handle within NoStatementRow = []
  row_traversals handle within (MoreStatementRow head tail) = traversals handle within head ++ row_traversals handle within tail

  pub branch_traversals : NameId → BranchTree → List Bool
  branch_traversals handle (MakeBranch guard statement) = traversals handle true statement

  pub branch_row_traversals : NameId → BranchRow → List Bool
  branch_row_traversals handle NoBranchRow = []
  branch_row_traversals handle (MoreBranchRow head tail) = branch_traversals handle head ++ branch_row_traversals handle tail

  pub arm_traversals : NameId → ArmTree → List Bool
  arm_traversals handle (MakeArm label colon statement) = traversals handle true statement

  pub arm_row_traversals : NameId → ArmRow → List Bool
  arm_row_traversals handle NoArmRow = []
  arm_row_traversals handle (MoreArmRow head tail) = arm_traversals handle head ++ arm_row_traversals handle tail

-- The statements traverse the handle exactly once, and not within a `select`, `repeat`, `if` or `match`.
abbrev pub IsSteady : NameId → List StatementTree → Type 0
IsSteady handle statements = flat_map (traversals handle false) statements ≡ false ∷ []

-- the activity of an action traverses the handle so
pub record IsSteadyIn (units : List UnitTree) (action : Declaration) (handle : NameId) : Type 0 where
  pub statements : List StatementTree
  pub compound : IsCompound units action statements
  pub steady : IsSteady handle statements

-- ---- names that may be of handles

-- a name in a constraint, an inline constraint, a body or a bind of an activity, and whether derived actions have that constraint too
pub record Mention : Type 0 where
  pub at : Environment
  pub name : Name
  pub inherited : Bool

abbrev pub mention : Environment → Bool → Name → Mention
mention at inherited name = record { at = at; name = name; inherited = inherited }

abbrev pub first_of_path : Use → Option Name
first_of_path (Reads at first rest) = Some first.name
first_of_path _ = None

-- the first names of the paths of an expression
abbrev pub first_names : Environment → ExprTree → List Name
first_names at expr = filter_map first_of_path (expr_uses at expr)

-- in a constraint that is no inline one
abbrev pub is_member_constraint : Environment → Bool
is_member_constraint at = not (is_some at.traversal)

abbrev pub mentions : Use → List Mention
mentions (Judges at Constrains expr) = map (mention at (is_member_constraint at)) (first_names at expr)
mentions (Judges at InBody expr) = map (mention at false) (first_names at expr)
mentions (Repeats at first rest) = mention at (is_member_constraint at) first.name ∷ []
mentions (Ends at handle reference) = mention at false handle ∷ []
mentions (Assigns at name) = mention at false name ∷ []
mentions _ = []

-- the action whose activity must traverse the handle that is mentioned
pub data IsJudgedBy (units : List UnitTree) (names : List (List ℕ)) (m : Mention) : Declaration → Type 0 where
  -- a member of the action that is traversed, in an inline constraint
  ByTraversed : (traversal : Traversal) (action handle : Declaration) → m.at.traversal ≡ Some traversal → traversed (declarations units) names m.at traversal ≡ Some action
      → member_of (declarations units) action m.name.id ≡ Some handle → IsJudgedBy units names m action
  -- another: by the action in whose text it stands
  ByOwner : (action : Declaration) → m.at.owner ≡ OfAction action → traversed_member (declarations units) names m.at m.name.id ≡ None → IsJudgedBy units names m action
  -- in a constraint that is no inline one: also by each action that is derived from that
  ByDerived : (action derived : Declaration) → m.at.owner ≡ OfAction action → IsTrue m.inherited → Contains (declarations units) derived
      → IsOrDerives (declarations units) derived action → IsJudgedBy units names m derived
