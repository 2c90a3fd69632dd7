-- Constraints on what a handle traverses, and constraints that stand at a traversal.
use Rattle.std.specs.Prelude.{◌≡◌, ℕ, ℤ, pos, List, [], ◌∷◌, Some, None}
use Rattle.pst_expr.specs.declared.tree.BinaryOp.TheVariants.{Equal, Add}
use Rattle.pst_expr.specs.Tree.{Variable}
use Rattle.pst_model.specs.ConstraintTree.{ConstraintTree, Own, Through, Outer}
use Rattle.pst_model.specs.ActivityTree.{Traverse}
use Rattle.pst_model.specs.ModelTree.{ModelTree, ActionTree}
use Rattle.pst_scen.specs.declared.tree.Fill.TheVariants as fill
use Rattle.pst_scen.specs.declared.scenario.Scenario.{Scenario}
use Rattle.pst_legal.specs.Statements.{handle_node}
use Rattle.pst_legal.specs.Standing.{Known, Unread}
use Rattle.pst_legal.specs.Slots.{node_slot, inline_slot}
use Rattle.pst_legal.specs.Constraints.{HasConstraint, Holds, value_at}
use Rattle.pst_legal.specs.First.{IsLive}
use Rattle.pst_legal.specs.ValueReading.{Whole, read}
use Rattle.pst_trials.specs.Parts.{span, field_to, atomic_with, compound, top, traverse_by, number, by, constraint, act_with, root_node, node, scenario_of, places}

-- a.v == n + 1
abbrev pub is_next : ConstraintTree
is_next = constraint (by Equal (Variable 0) (by Add (Variable 1) (number 1))) (Through 0 (Own 0) ∷ Own 0 ∷ [])

-- v == 9
abbrev pub is_nine : ConstraintTree
is_nine = constraint (by Equal (Variable 0) (number 9)) (Own 0 ∷ [])

-- v == n, where n is a field of the action round the traversal
abbrev pub is_outer : ConstraintTree
is_outer = constraint (by Equal (Variable 0) (Variable 1)) (Own 0 ∷ Outer (Own 0) ∷ [])

-- A a; rand bit[4] n; constraint a.v == n + 1; activity { a; do A with { v == 9; }; do A with { v == n; }; }
abbrev pub entry : ActionTree
entry = record (compound (0 ∷ []) (traverse_by 0 0 ∷ Traverse 0 None (is_nine ∷ []) ∷ Traverse 0 None (is_outer ∷ []) ∷ []) []) { fields = field_to 15 ∷ []; constraints = is_next ∷ [] }

-- component pss_top { action A { rand bit[4] v; } action entry { .. } }
abbrev pub model : ModelTree
model = record {
  actions = atomic_with (field_to 15 ∷ []) [] ∷ entry ∷ [];
  objects = [];
  instances = top;
  pools = [];
  functions = [];
  served = [];
}

-- the numbers n, a.v, and v at the two other traversals
abbrev pub scenario : ℤ → ℤ → ℤ → ℤ → Scenario
scenario n a b c = scenario_of 0
    (root_node 1 (n ∷ []) ∷ node 0 (fill.Leaf 0) ∷ node 0 (fill.Leaf 1) ∷ node 0 (fill.Leaf 2) ∷ [])
    (act_with 0 (Some 1) (a ∷ []) ∷ act_with 0 (Some 2) (b ∷ []) ∷ act_with 0 (Some 3) (c ∷ []) ∷ [])
    []

abbrev pub filling : Scenario
filling = scenario (pos 2) (pos 3) (pos 9) (pos 2)

-- The words of seed 1 at places 1, 5, 6 and 7 leave 7, 8, 5 and 1 at 16 values.
abbrev pub choices : List ℕ
choices = 0 ∷ 11 ∷ 0 ∷ 0 ∷ 0 ∷ 11 ∷ 4 ∷ 1 ∷ []

-- the root before its field is read
abbrev pub begun : Scenario
begun = scenario_of 0 (root_node 1 [] ∷ []) [] []

pub record InlinesAreTried : Type 0 where
  pub reads : read model 1 1 0 choices ≡ Whole filling
  pub options : places model 1 1 0 choices ≡ Some 1 ∷ Some 16 ∷ Some 1 ∷ Some 1 ∷ Some 1 ∷ Some 16 ∷ Some 16 ∷ Some 16 ∷ []
  -- what the handle and the action round a traversal stand for
  pub handle : handle_node model filling.nodes 0 1 0 ≡ Some 1
  pub handle_value : node_slot model filling 0 (Through 0 (Own 0)) ≡ Known (pos 3)
  pub outer_value : inline_slot model filling 3 0 [] (Outer (Own 0)) ≡ Known (pos 2)
  -- before it is there, what the handle traverses has its declared values
  pub no_handle_yet : handle_node model begun.nodes 0 1 0 ≡ None
  pub handle_unread : node_slot model begun 0 (Through 0 (Own 0)) ≡ Unread (span 0 15)
  pub own_unread : node_slot model begun 0 (Own 0) ≡ Unread (span 0 15)
  -- which constraints there are, and their values
  pub handle_has : HasConstraint model filling is_next (node_slot model filling 0)
  pub nine_has : HasConstraint model filling is_nine (inline_slot model filling 2 0 [])
  pub outer_has : HasConstraint model filling is_outer (inline_slot model filling 3 0 [])
  pub is_next_value : value_at is_next (node_slot model filling 0) ≡ Some (pos 1)
  pub is_nine_value : value_at is_nine (inline_slot model filling 2 0 []) ≡ Some (pos 1)
  pub is_outer_value : value_at is_outer (inline_slot model filling 3 0 []) ≡ Some (pos 1)
  pub all_hold : Holds model filling
  pub eight_fails : Holds model (scenario (pos 2) (pos 3) (pos 8) (pos 2)) → ⊥
  -- where n is 15 no value of a.v is left, before it is read
  pub fifteen_is_refused : IsLive model 1 1 0 (0 ∷ 8 ∷ []) → ⊥
