-- The steps of the parts of a reading, in any relation.
use Rattle.std.specs.Prelude.{ℕ, ◌<◌, List, [], ◌∷◌}
use Rattle.pst_expr.specs.Spans.{size_of}
use Rattle.pst_model.specs.declared.action.Field.{Field}
use Rattle.pst_model.specs.ModelTree.{ModelTree}
use Rattle.pst_scen.specs.declared.scenario.Scenario.{Scenario}
use Rattle.pst_legal.specs.Growing.{Look}
use Rattle.pst_legal.specs.Blanks.{Blank, options, claim_blanks, value_blanks}
use Rattle.pst_legal.specs.Menus.{Menu, Way, Place, Weighted, Closed}
use Rattle.pst_legal.specs.Reading.{put_value, value_number}
use Rattle.pst_legal.specs.ValueReading.{with_option, with_firsts}

-- each value of each field, one after another
abbrev pub FieldSteps : (Scenario → Scenario → Type 0) → ℕ → List Field → Scenario → Type 0
FieldSteps R n [] s = Unit {0}
FieldSteps R n (field ∷ fields) s =
    (k : ℕ) → k < size_of field.domain → R s (put_value s n (value_number field k)) × FieldSteps R n fields (put_value s n (value_number field k))

-- each option of each blank
abbrev pub BlankSteps : (Scenario → Scenario → Type 0) → ModelTree → List Blank → Scenario → Type 0
BlankSteps R m [] s = Unit {0}
BlankSteps R m (blank ∷ more) s = (k : ℕ) → k < options m s.actions blank → R s (with_option m k blank s) × BlankSteps R m more (with_option m k blank s)

-- the first objects, then the claims, and from what these came to the values
pub record ValueSteps (R : Scenario → Scenario → Type 0) (m : ModelTree) (s : Scenario) : Type 0 where
  pub firsts : R s (with_firsts m s)
  pub claims : BlankSteps R m (claim_blanks m s.actions) (with_firsts m s)
  pub values : (t : Scenario) → R (with_firsts m s) t → BlankSteps R m (value_blanks m s.actions) t

abbrev pub AllWays : (Look → List Field → Type 0) → Menu → Type 0
AllWays Q (Way look fields below) = Q look fields
AllWays Q (Place n after) = (k : ℕ) → AllWays Q (after k)
AllWays Q (Weighted weights after) = (k : ℕ) → AllWays Q (after k)
AllWays Q Closed = Unit {0}
