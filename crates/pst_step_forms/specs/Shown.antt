-- The arms of a `match` that the program has made so far.
use Rattle.std.specs.Prelude.{map}
use Rattle.pst_model.specs.ModelView.{maybe_step, view_arm}
use Rattle.pst_step_forms.specs.declared.arms.Arms.{Arms}
use Rattle.pst_step_forms.specs.Listed.{ArmsFound}

abbrev pub view_arms : Arms → ArmsFound
view_arms a = record { arms = map view_arm a.arms.items; other = maybe_step a.other }
