-- From the least to the greatest value of each blank.
use Rattle.std.specs.Prelude.{◌≡◌, ℕ, List, map, Option}
use Rattle.pst_expr.specs.declared.ranges.Span.{Span}
use Rattle.pst_domain.specs.Bounds.{AreUpright, AreWithin}
use Rattle.pst_model.specs.ConstraintTree.{Own, Id}
use Rattle.pst_model.specs.ModelTree.{ModelTree}
use Rattle.pst_scen.specs.declared.scenario.Scenario.{Scenario}
use Rattle.pst_legal.specs.Blanks.{Blank, Instance, OfFirst, OfAct, OfOutput, OfClaim, domain_of}
use Rattle.pst_legal.specs.Standing.{Standing, bound_of, hull}
use Rattle.pst_few_places.specs.Fillings.{all_blanks, AreOptions}
use Rattle.pst_blank_values.specs.Values.{blank_values}
use Rattle.pst_constraint_sites.specs.Sites.{AtAct, AtOutput, AtClaim, AtFirst, slot_at}

-- the slot that stands for what stands in a blank
abbrev pub blank_standing : ModelTree → Scenario → Blank → Standing
blank_standing m s (Instance act claim) = slot_at m s (AtClaim act claim) Id
blank_standing m s (OfFirst pool field) = slot_at m s (AtFirst pool) (Own field)
blank_standing m s (OfAct act field) = slot_at m s (AtAct act) (Own field)
blank_standing m s (OfOutput act reference field) = slot_at m s (AtOutput act reference) (Own field)
blank_standing m s (OfClaim act claim field) = slot_at m s (AtClaim act claim) (Own field)

abbrev pub blank_bound : ModelTree → Scenario → Blank → Option Span
blank_bound m s blank = bound_of (blank_standing m s blank)

-- the spans of all blanks
abbrev pub blank_hulls : ModelTree → Scenario → List (Option Span)
blank_hulls m u = map (λ blank. hull (domain_of m u.actions blank)) (all_blanks m u)

-- They are these, and the values of any options lie in them.
pub record HoldOptions (m : ModelTree) (u : Scenario) (spans : List (Option Span)) : Type 0 where
  pub each : spans ≡ blank_hulls m u
  pub upright : AreUpright spans
  pub within : (chosen : List ℕ) → AreOptions m u.actions (all_blanks m u) chosen → AreWithin spans (blank_values m u.actions (all_blanks m u) chosen)
