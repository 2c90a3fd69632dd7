-- All constraints of a scenario, in a list.
use Rattle.std.specs.Prelude.{ℕ, List, [], ◌++◌, map, if◌then◌else◌, Option, Some, None, slice_get, flat_map}
use Rattle.std.specs.List.{enumerate_from}
use Rattle.pst_model.specs.declared.action.Claim.{Claim}
use Rattle.pst_model.specs.ConstraintTree.{SlotTree, ConstraintTree}
use Rattle.pst_model.specs.ActivityTree.{StepTree, Traverse}
use Rattle.pst_model.specs.ModelTree.{ModelTree, ActionTree, ObjectTree}
use Rattle.pst_scen.specs.declared.tree.Node.{Node}
use Rattle.pst_scen.specs.declared.tree.Fill.{Fill}
use Rattle.pst_scen.specs.declared.tree.Fill.TheVariants as fill
use Rattle.pst_scen.specs.declared.act.Act.{Act}
use Rattle.pst_scen.specs.declared.act.Filled.{Filled}
use Rattle.pst_scen.specs.declared.scenario.Scenario.{Scenario}
use Rattle.pst_legal.specs.Types.{type_of, pool_object, is_output}
use Rattle.pst_legal.specs.Blanks.{claims_of, used_state_pools}
use Rattle.pst_legal.specs.Standing.{Standing}
use Rattle.pst_legal.specs.Slots.{node_slot, act_slot, inline_slot, output_slot, resource_slot, first_object_slot}
use Rattle.pst_slots.specs.Stated.{Stated, statement_of}

-- a constraint, and what its slots stand for
pub record Stating : Type 0 where
  pub constraint : ConstraintTree
  pub standing : SlotTree → Standing

abbrev pub stating : (SlotTree → Standing) → ConstraintTree → Stating
stating standing constraint = record { constraint = constraint; standing = standing }

abbrev pub action_constraints : Option ActionTree → List ConstraintTree
action_constraints None = []
action_constraints (Some type) = type.constraints

abbrev pub object_constraints : Option ObjectTree → List ConstraintTree
object_constraints None = []
object_constraints (Some object) = object.constraints

-- those of a compound action
abbrev pub of_fill : ModelTree → Scenario → ℕ → Fill → List Stating
of_fill m s n (fill.Compound action instance fields) = map (stating (node_slot m s n)) (action_constraints (type_of m action))
of_fill m s n _ = []

abbrev pub of_step : ModelTree → Scenario → ℕ → ℕ → List ℕ → StepTree → List Stating
of_step m s n top indices (Traverse action handle inline) = map (stating (inline_slot m s n top indices)) inline
of_step m s n top indices _ = []

abbrev pub of_stated : ModelTree → Scenario → ℕ → Option Stated → List Stating
of_stated m s n None = []
of_stated m s n (Some stated) = of_step m s n stated.top stated.indices stated.step

-- those of the action of a node, and then the inline ones of the traversal that it stands for
abbrev pub of_node : ModelTree → Scenario → ℕ × Node → List Stating
of_node m s e = of_fill m s e.0 e.1.fill ++ of_stated m s e.0 (statement_of m s.nodes e.0)

-- those of the object that an output writes
abbrev pub of_output : ModelTree → Scenario → ℕ → ℕ × Filled → List Stating
of_output m s a e = if is_output e.1.flow then map (stating (output_slot m s a e.0 e.1)) (object_constraints (pool_object m e.1.pool)) else []

-- those of the resource that a claim claims
abbrev pub of_claim : ModelTree → ℕ → Act → ℕ × Claim → List Stating
of_claim m a act e = map (stating (resource_slot m a act e.0)) (object_constraints (slice_get m.objects e.1.object))

-- those of an atomic action, of what it writes and of what it claims
abbrev pub of_act : ModelTree → Scenario → ℕ × Act → List Stating
of_act m s e =
    map (stating (act_slot m s e.0 e.1)) (action_constraints (type_of m e.1.action))
    ++ (flat_map (of_output m s e.0) (enumerate_from 0 e.1.references) ++ flat_map (of_claim m e.0 e.1) (enumerate_from 0 (claims_of (type_of m e.1.action))))

-- those of the first object of a pool
abbrev pub of_first_object : ModelTree → Scenario → ℕ → List Stating
of_first_object m s pool = map (stating (first_object_slot m s pool)) (object_constraints (pool_object m pool))

-- The constraints by node, then by action, then those of the first objects by pool.
abbrev pub constraints_of : ModelTree → Scenario → List Stating
constraints_of m s =
    flat_map (of_node m s) (enumerate_from 0 s.nodes) ++ (flat_map (of_act m s) (enumerate_from 0 s.actions) ++ flat_map (of_first_object m s) (used_state_pools m s.actions))
