use Rattle.std.proofs.Common.{◌≡◌, ℕ, ◌<◌, map, slice_get, Some}
use Rattle.pst_model.specs.ModelTree.{ActionTree}
use Rattle.pst_model.specs.ModelView.{view_model, view_action}
use Rattle.pst_model.specs.Served.{IsServed}
use Rattle.pst_sound_parts.proofs.served.are_all_served.Given as goal

abbrev pub invariant-loop-number : goal.invariant-loop-number
invariant-loop-number l = (number : ℕ) (action : ActionTree) → number < l.number → slice_get (map view_action l.actions) number ≡ Some action → IsServed (view_model l.model) number action
