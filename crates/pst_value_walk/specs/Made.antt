-- The invariant of a walk.
use Rattle.std.specs.Prelude.{reverse}
use Rattle.pst_model.specs.ModelView.{view_model}
use Rattle.pst_value_walk.specs.declared.walk.ValueWalk.TheInside.{Inside}
use Rattle.pst_value_walk.specs.Walks.{Kept}
use Rattle.pst_value_walk.specs.Choices.{kept_at, Stands}

abbrev pub kept_by : Inside → Kept
kept_by w = kept_at w.model.now w.seed w.place w.places.items (reverse w.made.items) w.scenario

abbrev pub IsKept : Inside → Type 0
IsKept w = Stands (view_model w.model.now) w.seed w.place w.places.items (reverse w.made.items) w.scenario
