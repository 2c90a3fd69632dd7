-- The invariant of the walker.
use Rattle.pst_model.specs.ModelView.{view_model}
use Rattle.pst_model.specs.Sound.{IsSound}
use Rattle.pst_built.specs.Laws.{IsConcreteRoot}
use Rattle.pst_link_walk.specs.Walks.{Kept}
use Rattle.pst_search.specs.declared.reading.Reading.TheInside.{Inside}
use Rattle.pst_list_values.specs.Tied.{IsTied}
use Rattle.pst_search.specs.Readings.{IsPlanned}

abbrev pub kept_by : Inside → Kept
kept_by r = r.lists

-- the model is sound, and the root isn't abstract
pub record IsGround (k : Kept) : Type 0 where
  pub sound : IsSound (view_model k.model)
  pub concrete : IsConcreteRoot (view_model k.model) k.root

-- and what is kept of the values behind the sources is of the choices, and the plan is of the whole list
pub record IsReading (r : Inside) : Type 0 where
  pub ground : IsGround r.lists
  pub tied : IsTied r.lists r.behind
  pub planned : IsPlanned r.lists r.plan
