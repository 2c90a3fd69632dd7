-- Two places of claims that refuse a list between them.
use Rattle.std.specs.Prelude.{◌≡◌, ℕ, List, [], ◌∷◌}
use Rattle.pst_scen.specs.Plans.{StandParallel, Contend}
use Rattle.pst_scen.specs.Refusals.{IsUnrefused}
use Rattle.pst_legal.specs.ValueReading.{Whole, read}
use Rattle.pst_built.specs.OrderStaysLaws.{IsBarren}
use Rattle.pst_few_places.specs.Fillings.{all_blanks, filled, named}
use Rattle.pst_few_places.specs.Laws.{AgreeAt}
use Rattle.pst_law_trials.specs.Models.{claims, claiming}
use Rattle.pst_law_trials.specs.Premises.{both_open}

pub record PlacesAreTried : Type 0 where
  -- both claims claim instance 1, in different branches of a parallel block
  pub reads : read claims 2 1 0 (0 ∷ 0 ∷ 0 ∷ 0 ∷ 1 ∷ []) ≡ Whole (claiming 1 1)
  pub stand : StandParallel (claiming 1 1) 0 1
  pub contend : Contend (claiming 1 1) 0 1
  -- so nothing legal is ahead
  pub barren : IsBarren claims 2 1 0 (0 ∷ 0 ∷ 0 ∷ 0 ∷ 1 ∷ [])
  -- the choices name these options, and no options that agree with them at both places have a plan
  pub names : named claims 1 both_open.actions (all_blanks claims both_open) 3 (0 ∷ 1 ∷ []) ≡ 1 ∷ 1 ∷ []
  pub none_planned : (chosen : List ℕ) → AgreeAt (0 ∷ 1 ∷ []) chosen (1 ∷ 1 ∷ []) → IsUnrefused (filled claims (all_blanks claims both_open) chosen both_open) → ⊥
