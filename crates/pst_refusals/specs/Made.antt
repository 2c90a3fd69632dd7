-- The inline constraints at the traversal of an action that is looked at by itself.
use Rattle.std.specs.Prelude.{ℕ, List, [], map, Option, Some, None, slice_get}
use Rattle.pst_model.specs.ConstraintTree.{SlotTree, Index, Outer}
use Rattle.pst_model.specs.ActivityTree.{StepTree, Traverse}
use Rattle.pst_model.specs.ModelTree.{ModelTree}
use Rattle.pst_scen.specs.declared.act.Act.{Act}
use Rattle.pst_scen.specs.declared.scenario.Scenario.{Scenario}
use Rattle.pst_legal.specs.Standing.{Standing, number_or_lacking}
use Rattle.pst_legal.specs.Slots.{node_slot, act_slot}
use Rattle.pst_slots.specs.Stated.{Stated}
use Rattle.pst_slots.specs.Listed.{Stating, stating}

-- What a slot stands for, where the action is traversed in the activity of the compound action of node `top`, in turns with
-- these numbers.
abbrev pub made_slot : ModelTree → Scenario → Act → ℕ → List ℕ → SlotTree → Standing
made_slot m s act top indices (Outer slot) = node_slot m s top slot
made_slot m s act top indices (Index level) = number_or_lacking (slice_get indices level)
made_slot m s act top indices slot = act_slot m s 0 act slot

abbrev pub of_made_step : ModelTree → Scenario → Act → ℕ → List ℕ → StepTree → List Stating
of_made_step m s act top indices (Traverse action handle inline) = map (stating (made_slot m s act top indices)) inline
of_made_step m s act top indices _ = []

-- those at the statement that makes the action
abbrev pub of_made : ModelTree → Scenario → Act → Option Stated → List Stating
of_made m s act None = []
of_made m s act (Some stated) = of_made_step m s act stated.top stated.indices stated.step
