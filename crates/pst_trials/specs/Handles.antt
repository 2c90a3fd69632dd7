-- Handles behind traversals, levels of indices, joins of any branches, preorder and groups of three.
use Rattle.std.specs.Prelude.{◌≡◌, ℕ, ℤ, pos, List, [], ◌∷◌, Bool, true, false, Option, Some, None}
use Rattle.pst_expr.specs.Tree.{Variable}
use Rattle.pst_expr.specs.declared.tree.BinaryOp.TheVariants.{Equal}
use Rattle.pst_model.specs.declared.object.ObjectKind.TheVariants.{State, Buffer}
use Rattle.pst_model.specs.declared.activity.Join.TheVariants.{Fixed, Choose}
use Rattle.pst_model.specs.declared.model.Serve.{Serve}
use Rattle.pst_model.specs.ConstraintTree.{ConstraintTree, Own, First, Index, Through, Outer}
use Rattle.pst_model.specs.ActivityTree.{StepTree, Traverse, Repeat}
use Rattle.pst_model.specs.ModelTree.{ModelTree, ActionTree}
use Rattle.pst_scen.specs.declared.tree.Node.{Node}
use Rattle.pst_scen.specs.declared.tree.Fill.TheVariants as fill
use Rattle.pst_scen.specs.declared.act.Act.{Act}
use Rattle.pst_scen.specs.declared.act.Flow.TheVariants.{StateIn, StateOut, StreamIn, StreamOut}
use Rattle.pst_scen.specs.declared.act.Link.TheVariants as link
use Rattle.pst_scen.specs.declared.scenario.Scenario.{Scenario}
use Rattle.pst_scen.specs.Scenarios.{AreInPreorder, HasLeavesFirst}
use Rattle.pst_scen.specs.Order.{Together}
use Rattle.pst_scen.specs.Trace.{IsWholeGroup}
use Rattle.pst_legal.specs.Statements.{StandsFor}
use Rattle.pst_legal.specs.Standing.{Known}
use Rattle.pst_legal.specs.Slots.{node_slot, inline_slot}
use Rattle.pst_legal.specs.Constraints.{HasConstraint, value_at}
use Rattle.pst_legal.specs.Pieces.{IsJoined}
use Rattle.pst_trials.specs.Parts.{name, number, by, constraint, field_to, input, output, bare, atomic, atomic_with, compound, top, pool_of, serve, traverse, traverse_by, act_of, act_with, filled, root_node, node, scenario_of}

-- v == i * .. with the numbers of two turns
abbrev pub turned : ConstraintTree
turned = constraint (by Equal (Variable 0) (Variable 1)) (Index 0 ∷ Index 1 ∷ [])

abbrev pub traversal : StepTree
traversal = Traverse 0 None (turned ∷ [])

abbrev pub n_times : ℕ → StepTree → StepTree
n_times n body = Repeat (constraint (number n) []) body

-- repeat (i : 1) repeat (j : 2) do A with { i == j; };
abbrev pub nested : ModelTree
nested = record { actions = atomic [] [] ∷ compound [] (n_times 1 (n_times 2 traversal) ∷ []) [] ∷ []; objects = []; instances = top; pools = []; functions = []; served = [] }

abbrev pub in_turns : Scenario
in_turns = scenario_of 0
    (root_node 1 [] ∷ node 0 fill.Repeat ∷ node 1 (fill.Turn 0) ∷ node 2 fill.Repeat ∷ node 3 (fill.Turn 0) ∷ node 4 (fill.Leaf 0) ∷ node 3 (fill.Turn 1) ∷ node 6 (fill.Leaf 1) ∷ [])
    (act_of 0 (Some 5) [] ∷ act_of 0 (Some 7) [] ∷ []) []

-- h.v == n, h.i.initial, in an inline constraint: h is a handle of the traversed action, n a field of the one round it
abbrev pub behind : ConstraintTree
behind = constraint (by Equal (Variable 0) (Variable 1)) (Through 0 (Own 0) ∷ Outer (Own 0) ∷ [])

-- action A { rand bit[4] v; input st_t i; } action C { A h; activity { h; } } action entry { rand bit[4] n; activity { do C with { h.v == n; }; } }
abbrev pub handled : ModelTree
handled = record {
  actions = record (atomic_with (field_to 15 ∷ []) []) { references = input 0 ∷ [] } ∷ compound (0 ∷ []) (traverse_by 0 0 ∷ []) []
      ∷ record (compound [] (Traverse 1 None (behind ∷ []) ∷ []) []) { fields = field_to 15 ∷ [] } ∷ [];
  objects = bare State ∷ [];
  instances = top;
  pools = pool_of 0 ∷ [];
  functions = [];
  served = serve 0 0 ∷ [];
}

abbrev pub handled_scenario : ℤ → Scenario
handled_scenario v = scenario_of 0
    (root_node 2 (pos 3 ∷ []) ∷ node 0 (fill.Compound 1 0 []) ∷ node 1 (fill.Leaf 0) ∷ [])
    (record (act_of 0 (Some 2) (filled StateIn [] link.Initial ∷ [])) { fields = v ∷ [] } ∷ []) (record { pool = 0; values = [] } ∷ [])

-- node 4 stands in node 1, which node 3 has left
abbrev pub left : List Node
left = root_node 0 [] ∷ node 0 fill.Sequence ∷ node 1 fill.Sequence ∷ node 0 fill.Sequence ∷ node 1 fill.Sequence ∷ []

-- two streams from one action
abbrev pub three : Scenario
three = scenario_of 0
    (root_node 3 [] ∷ node 0 fill.Parallel ∷ node 1 (fill.Leaf 0) ∷ node 1 (fill.Leaf 1) ∷ node 1 (fill.Leaf 2) ∷ [])
    (act_of 0 (Some 2) (filled StreamIn [] (link.Act 1 0) ∷ []) ∷ act_of 1 (Some 3) (filled StreamOut [] (link.Act 0 0) ∷ filled StreamOut [] (link.Act 2 0) ∷ []) ∷ act_of 0 (Some 4) (filled StreamIn [] (link.Act 1 1) ∷ []) ∷ [])
    []

pub record HandlesAreTried : Type 0 where
  -- the outer turn is level 0
  pub stands : StandsFor nested in_turns.nodes 0 7 traversal (0 ∷ 1 ∷ [])
  pub has : HasConstraint nested in_turns turned (inline_slot nested in_turns 7 0 (0 ∷ 1 ∷ []))
  pub first_turns : value_at turned (inline_slot nested in_turns 5 0 (0 ∷ 0 ∷ [])) ≡ Some (pos 1)
  pub other_turns : value_at turned (inline_slot nested in_turns 7 0 (0 ∷ 1 ∷ [])) ≡ Some (pos 0)
  -- a handle of the traversed action
  pub handled_has : HasConstraint handled (handled_scenario (pos 3)) behind (inline_slot handled (handled_scenario (pos 3)) 1 0 [])
  pub handled_holds : value_at behind (inline_slot handled (handled_scenario (pos 3)) 1 0 []) ≡ Some (pos 1)
  pub handled_fails : value_at behind (inline_slot handled (handled_scenario (pos 4)) 1 0 []) ≡ Some (pos 0)
  pub handled_initial : node_slot handled (handled_scenario (pos 3)) 1 (Through 0 (First 0)) ≡ Known (pos 1)
  -- any n of the branches
  pub none_of_two : IsJoined (Choose 0) 2 0
  pub both_of_two : IsJoined (Choose 2) 2 3
  pub second_of_three : IsJoined (Choose 1) 3 2
  pub two_of_three : IsJoined (Choose 1) 3 3 → ⊥
  pub three_of_two : (joined : ℕ) → IsJoined (Choose 3) 2 joined → ⊥
  -- a subtree that has been left isn't entered again
  pub left_is_left : AreInPreorder left → ⊥
  -- a group of three
  pub one_group : Together three 0 2
  pub not_two : IsWholeGroup three (0 ∷ 1 ∷ []) → ⊥
