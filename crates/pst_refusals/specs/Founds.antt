-- Statements as they are looked for.
use Rattle.std.specs.Prelude.{ℕ, List, Option, slice_get}
use Rattle.std.specs.Option.{option_and_then}
use Rattle.pst_model.specs.ActivityTree.{StepTree}
use Rattle.pst_model.specs.ModelTree.{ModelTree}
use Rattle.pst_model.specs.ModelView.{view_step}
use Rattle.pst_legal.specs.Types.{action_activity}
use Rattle.pst_slots.specs.Stated.{Stated}
use Rattle.pst_refusals.specs.declared.statement.Stated.{Stated as Found}

abbrev pub stated_at : ℕ → StepTree → List ℕ → Stated
stated_at top step indices = record { top = top; step = step; indices = indices }

abbrev pub stated_of : Found → Stated
stated_of x = record { top = x.top; step = view_step x.step.now; indices = x.indices.items }

-- the statement at a place of the activity of an action type
abbrev pub step_at : ModelTree → ℕ → ℕ → Option StepTree
step_at m action index = option_and_then (λ activity. slice_get activity.steps index) (action_activity m action)
