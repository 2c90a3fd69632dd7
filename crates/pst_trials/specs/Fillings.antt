-- Fills of activities, and values.
use Rattle.std.specs.Prelude.{◌≡◌, ℕ, ℤ, pos, List, [], ◌∷◌, Bool, true, false, Option, Some, None}
use Rattle.pst_expr.specs.declared.tree.BinaryOp.TheVariants.{Add, Sub, Div, Equal, Greater, Or}
use Rattle.pst_expr.specs.Tree.{Expression, Constant, Variable}
use Rattle.pst_model.specs.declared.action.Field.{Field}
use Rattle.pst_model.specs.declared.object.ObjectKind.TheVariants.{State, Resource}
use Rattle.pst_model.specs.declared.model.Part.{Part}
use Rattle.pst_model.specs.ConstraintTree.{ConstraintTree, Own, First, Prev}
use Rattle.pst_model.specs.ActivityTree.{StepTree, BranchTree, MakeBranch, ArmTree, MakeArm, Select, Repeat, If, NoStep}
use Rattle.pst_model.specs.ModelTree.{ModelTree, ActionTree, ObjectTree}
use Rattle.pst_scen.specs.declared.tree.Fill.TheVariants as fill
use Rattle.pst_scen.specs.declared.act.Act.{Act}
use Rattle.pst_scen.specs.declared.act.Flow.TheVariants.{StateIn, StateOut}
use Rattle.pst_scen.specs.declared.act.Link.{Link}
use Rattle.pst_scen.specs.declared.act.Link.TheVariants as link
use Rattle.pst_scen.specs.declared.scenario.Scenario.{Scenario}
use Rattle.pst_legal.specs.Standing.{Known}
use Rattle.pst_legal.specs.Slots.{act_slot}
use Rattle.pst_legal.specs.Constraints.{Holds, value_at}
use Rattle.pst_legal.specs.Growing.{Look, Inner, Leaf, nothing_yet, most_levels}
use Rattle.pst_legal.specs.Pieces.{Context, Piece, Action, Statement, IsActionWay, IsSelectWay, IsStatementWay, IsMatchWay}
use Rattle.pst_legal.specs.Fits.{Fills, FillsRoot, IsClaimOf}
use Rattle.pst_trials.specs.Parts.{name, span, number, by, constraint, field_to, input, output, claim, bare, atomic, atomic_with, compound, top, pool_of, serve, traverse, act_of, act_with, act_claims, claimed, filled, root_node, node, scenario_of}

abbrev pub model_of : List ActionTree → ModelTree
model_of actions = record { actions = actions; objects = []; instances = top; pools = []; functions = []; served = [] }

-- action entry { activity { do entry; } }
abbrev pub endless : ModelTree
endless = model_of (compound [] (traverse 0 ∷ []) [] ∷ [])

-- action A { } action entry { activity { do A; } }
abbrev pub one : ModelTree
one = model_of (atomic [] [] ∷ compound [] (traverse 0 ∷ []) [] ∷ [])

abbrev pub after_one : Scenario
after_one = scenario_of 0 (root_node 1 [] ∷ node 0 (fill.Leaf 0) ∷ []) (act_of 0 (Some 1) [] ∷ []) []

-- 1 / 0
abbrev pub no_value : ConstraintTree
no_value = constraint (by Div (number 1) (number 0)) []

abbrev pub is : ℕ → ConstraintTree
is n = constraint (number n) []

abbrev pub here : Context
here = record { instance = 0; fields = []; indices = [] }

-- [0..2]: do A;
abbrev pub arm : ArmTree
arm = MakeArm (span 0 2 ∷ []) (traverse 0)

-- pss_top with two instances of a component
abbrev pub two_parts : List Part
two_parts =
    record { name = name 0; component = name 0; parent = None; last = 2 }
    ∷ record { name = name 2; component = name 1; parent = Some 0; last = 1 }
    ∷ record { name = name 3; component = name 1; parent = Some 0; last = 2 } ∷ []

abbrev pub parted : ModelTree
parted = record (model_of (record (atomic [] []) { component = name 1 } ∷ [])) { instances = two_parts }

-- resource r_t { } pool r_t r; action A { lock r_t k; }
abbrev pub locking : ModelTree
locking = record (model_of (atomic [] (claim true 0 ∷ []) ∷ [])) { objects = bare Resource ∷ []; pools = pool_of 1 ∷ []; served = serve 0 0 ∷ [] }

-- ---- states

-- x == prev.x
abbrev pub as_before : ConstraintTree
as_before = constraint (by Equal (Variable 0) (Variable 1)) (Own 0 ∷ Prev 0 ∷ [])

abbrev pub state : ObjectTree
state = record { name = name 1; kind = State; fields = field_to 1 ∷ []; constraints = as_before ∷ [] }

abbrev pub stated : ModelTree
stated = record (model_of (atomic (input 0 ∷ []) [] ∷ atomic (output 0 ∷ []) [] ∷ [])) { objects = state ∷ []; pools = pool_of 0 ∷ []; served = serve 0 0 ∷ serve 1 0 ∷ [] }

abbrev pub reader : Link → Act
reader to = act_of 0 (Some 1) (filled StateIn [] to ∷ [])

abbrev pub writer : Act
writer = act_of 1 (Some 2) (filled StateOut (pos 0 ∷ []) link.Initial ∷ [])

abbrev pub read_and_write : Link → Scenario
read_and_write to = scenario_of 0 (root_node 2 [] ∷ node 0 (fill.Leaf 0) ∷ node 0 (fill.Leaf 1) ∷ []) (reader to ∷ writer ∷ []) (record { pool = 0; values = pos 0 ∷ [] } ∷ [])

-- ---- overflow

-- x + 1 > 0 || x + 1 == 0
abbrev pub beyond : ConstraintTree
beyond = constraint (by Or (by Greater (by Add (Variable 0) (number 1)) (number 0)) (by Equal (by Add (Variable 0) (number 1)) (number 0))) (Own 0 ∷ [])

-- rand bit[63] x; constraint ..
abbrev pub wide : ModelTree
wide = model_of (atomic_with (field_to 9223372036854775807 ∷ []) (beyond ∷ []) ∷ [])

abbrev pub widest : ℕ → Act
widest n = act_with 0 (Some 0) (pos n ∷ [])

abbrev pub alone : ℕ → Scenario
alone n = scenario_of 0 (record { parent = None; fill = fill.Leaf 0 } ∷ []) (widest n ∷ []) []

pub record FillingsAreTried : Type 0 where
  -- a tree without an end has no fill; a tree of two levels has none in one
  pub endless_isn't_filled : (s : Scenario) → FillsRoot endless 0 s → ⊥
  pub two_levels : Fills one 2 (Action 1 None) None (nothing_yet 0) after_one
  pub one_level : (after : Scenario) → Fills one 1 (Action 1 None) None (nothing_yet 0) after → ⊥
  pub levels : most_levels ≡ 64
  -- a guard, a count and a condition without a value
  pub no_guard : (look : Look) (below : List Piece) → IsSelectWay here (MakeBranch (Some no_value) 1 (traverse 0) ∷ []) look below → ⊥
  pub no_count : (look : Look) (below : List Piece) → IsStatementWay one here (Repeat no_value (traverse 0)) look below → ⊥
  pub negative_count : (look : Look) (below : List Piece) → IsStatementWay one here (Repeat (constraint (by Sub (number 0) (number 1)) []) (traverse 0)) look below → ⊥
  pub no_condition : (look : Look) (below : List Piece) → IsStatementWay one here (If no_value (traverse 0) NoStep) look below → ⊥
  -- a condition that is 0, without an else
  pub nothing_taken : IsStatementWay one here (If (is 0) (traverse 0) NoStep) (Inner (fill.If false)) []
  -- no default where an arm has the value, and no arm where none has
  pub no_default : (below : List Piece) → IsMatchWay here (pos 2) (arm ∷ []) (Some (traverse 0)) (Inner (fill.Match None)) below → ⊥
  pub a_default : IsMatchWay here (pos 3) (arm ∷ []) (Some (traverse 0)) (Inner (fill.Match None)) (Statement here (traverse 0) ∷ [])
  -- an instance beside the containing action's
  pub beside : IsActionWay parted 0 (Some 1) (Leaf 0 2) [] → ⊥
  pub inside : IsActionWay parted 0 (Some 1) (Leaf 0 1) []
  -- a resource instance behind the last
  pub no_instance : IsClaimOf locking (act_claims 0 (Some 0) (claimed true 1 ∷ [])) 0 (claim true 0) (claimed true 1) → ⊥
  -- `initial` after an input of the first object, after another input, and after an output
  pub initial_of_first : act_slot stated (read_and_write link.Initial) 0 (reader link.Initial) (First 0) ≡ Known (pos 1)
  pub initial_of_written : act_slot stated (read_and_write (link.Act 1 0)) 0 (reader (link.Act 1 0)) (First 0) ≡ Known (pos 0)
  pub initial_of_output : act_slot stated (read_and_write link.Initial) 1 writer (First 0) ≡ Known (pos 0)
  -- `prev` of a first object
  pub no_previous : Holds stated (read_and_write link.Initial) → ⊥
  -- a sum that isn't a value, and the greatest that is
  pub no_sum : value_at beyond (act_slot wide (alone 9223372036854775807) 0 (widest 9223372036854775807)) ≡ None
  pub a_sum : value_at beyond (act_slot wide (alone 9223372036854775806) 0 (widest 9223372036854775806)) ≡ Some (pos 1)
  pub beyond_fails : Holds wide (alone 9223372036854775807) → ⊥
