-- Repetitions with the numbers of their turns, and conditional statements.
use Rattle.std.specs.Prelude.{◌≡◌, pos, [], ◌∷◌, true, false, Some, None}
use Rattle.pst_expr.specs.declared.tree.BinaryOp.TheVariants.{Equal, Add, Sub}
use Rattle.pst_expr.specs.Tree.{Expression, Variable}
use Rattle.pst_model.specs.ConstraintTree.{ConstraintTree, Own, Index}
use Rattle.pst_model.specs.ActivityTree.{StepTree, Traverse, Sequence, Repeat, If, NoStep}
use Rattle.pst_model.specs.ModelTree.{ModelTree}
use Rattle.pst_scen.specs.declared.tree.Fill.TheVariants as fill
use Rattle.pst_scen.specs.declared.scenario.Scenario.{Scenario}
use Rattle.pst_legal.specs.Standing.{Known}
use Rattle.pst_legal.specs.Slots.{inline_slot}
use Rattle.pst_legal.specs.Statements.{StandsFor}
use Rattle.pst_legal.specs.Constraints.{HasConstraint, value_at}
use Rattle.pst_legal.specs.Fits.{FillsRoot}
use Rattle.pst_scen.specs.Order.{Before}
use Rattle.pst_legal.specs.ValueReading.{Dead, Whole, read}
use Rattle.pst_trials.specs.Parts.{field_to, atomic_with, compound, top, traverse, filling, number, by, constraint, act_with, root_node, node, scenario_of, places}

abbrev pub plain : Expression → ConstraintTree
plain expression = constraint expression []

-- i == 1
abbrev pub second_turn : ConstraintTree
second_turn = constraint (by Equal (Variable 0) (number 1)) (Index 0 ∷ [])

-- v == i + 1
abbrev pub turn_value : ConstraintTree
turn_value = constraint (by Equal (Variable 0) (by Add (Variable 1) (number 1))) (Own 0 ∷ Index 0 ∷ [])

-- do A with { v == i + 1; }
abbrev pub traversal : StepTree
traversal = Traverse 0 None (turn_value ∷ [])

-- { if (i == 1) do A with { v == i + 1; }; }
abbrev pub body : StepTree
body = Sequence (filling (If second_turn traversal NoStep ∷ []))

-- component pss_top { action A { rand bit[4] v; } action entry { activity { .. } } }
abbrev pub model : StepTree → ModelTree
model step = record {
  actions = atomic_with (field_to 15 ∷ []) [] ∷ compound [] (step ∷ []) [] ∷ [];
  objects = [];
  instances = top;
  pools = [];
  functions = [];
  served = [];
}

-- repeat (i : 3) { .. }
abbrev pub three : ModelTree
three = model (Repeat (plain (number 3)) body)

-- three turns, of which the second has the action
abbrev pub scenario : Scenario
scenario = scenario_of 0
    (root_node 1 [] ∷ node 0 fill.Repeat
    ∷ node 1 (fill.Turn 0) ∷ node 2 fill.Sequence ∷ node 3 (fill.If false)
    ∷ node 1 (fill.Turn 1) ∷ node 5 fill.Sequence ∷ node 6 (fill.If true) ∷ node 7 (fill.Leaf 0)
    ∷ node 1 (fill.Turn 2) ∷ node 9 fill.Sequence ∷ node 10 (fill.If false) ∷ [])
    (act_with 0 (Some 8) (pos 2 ∷ []) ∷ [])
    []

-- repeat (2) do A;
abbrev pub two_turns : Scenario
two_turns = scenario_of 0
    (root_node 1 [] ∷ node 0 fill.Repeat ∷ node 1 (fill.Turn 0) ∷ node 2 (fill.Leaf 0) ∷ node 1 (fill.Turn 1) ∷ node 4 (fill.Leaf 1) ∷ [])
    (act_with 0 (Some 3) (pos 0 ∷ []) ∷ act_with 0 (Some 5) (pos 3 ∷ []) ∷ [])
    []

pub record RepeatsAreTried : Type 0 where
  -- The word of seed 1 at place 2 leaves 0 at 16 values.
  pub reads : read three 1 1 0 (0 ∷ 0 ∷ 2 ∷ []) ≡ Whole scenario
  pub options : places three 1 1 0 (0 ∷ 0 ∷ 2 ∷ []) ≡ Some 1 ∷ Some 1 ∷ Some 16 ∷ []
  -- no turn; and a negative count has no way
  pub no_turn : read (model (Repeat (plain (number 0)) body)) 1 1 0 (0 ∷ []) ≡ Whole (scenario_of 0 (root_node 1 [] ∷ node 0 fill.Repeat ∷ []) [] [])
  pub negative_count : read (model (Repeat (plain (by Sub (number 0) (number 1))) body)) 1 1 0 (0 ∷ []) ≡ Dead
  -- the constraint at the traversal is of the second turn
  pub stands : StandsFor three scenario.nodes 0 8 traversal (1 ∷ [])
  pub has : HasConstraint three scenario turn_value (inline_slot three scenario 8 0 (1 ∷ []))
  pub turn : inline_slot three scenario 8 0 (1 ∷ []) (Index 0) ≡ Known (pos 1)
  pub holds : value_at turn_value (inline_slot three scenario 8 0 (1 ∷ [])) ≡ Some (pos 1)
  -- turns run one after another; the words of seed 1 at places 3 and 4 leave 3 and 0 at 16 values
  pub reads_two : read (model (Repeat (plain (number 2)) (traverse 0))) 1 1 0 (0 ∷ 0 ∷ 0 ∷ 13 ∷ 3 ∷ []) ≡ Whole two_turns
  pub turns_in_order : Before two_turns 0 1
  -- the turns and the parts of the conditional statement fill their statements
  pub fills : FillsRoot three 1 scenario
