-- Constraints over the blanks.
use Rattle.std.specs.Prelude.{◌≡◌, ℕ, ℤ, List, length, map, Option, Some, slice_get}
use Rattle.pst_expr.specs.declared.ranges.Span.{Span}
use Rattle.pst_expr.specs.Tree.{Expression}
use Rattle.pst_expr.specs.Value.{value, variable_value}
use Rattle.pst_domain.specs.Bounds.{HasVariablesBelow, IsInside, bound_of as bound_at}
use Rattle.pst_domain.specs.Interval.{interval}
use Rattle.pst_narrow.specs.Solutions.{IsMet, AreMet}
use Rattle.pst_narrow.specs.Narrowing.{HaveVariablesBelow}
use Rattle.pst_model.specs.ConstraintTree.{SlotTree, ConstraintTree}
use Rattle.pst_model.specs.ModelTree.{ModelTree}
use Rattle.pst_scen.specs.declared.scenario.Scenario.{Scenario}
use Rattle.pst_legal.specs.Blanks.{Blank, domain_of}
use Rattle.pst_legal.specs.ValueReading.{with_firsts}
use Rattle.pst_legal.specs.Standing.{value_of, bound_of, value_or, open_value, hull}
use Rattle.pst_legal.specs.Constraints.{Holds}
use Rattle.pst_few_places.specs.Fillings.{all_blanks, AreOptions, filled}
use Rattle.pst_blank_values.specs.Rows.{stands_in}
use Rattle.pst_blank_values.specs.Values.{blank_values, IsSameButValues, IsWithValues}
use Rattle.pst_constraint_sites.specs.Senses.{LinksJoin}
use Rattle.pst_constraint_sites.specs.Sites.{SiteTree, slot_at}

-- the values that a constraint is about at a site
abbrev pub slot_values : ModelTree → Scenario → SiteTree → List SlotTree → List (Option ℤ)
slot_values m t site slots = map (λ slot. value_of (slot_at m t site slot)) slots

-- the bounds that are known of them
abbrev pub slot_bounds : ModelTree → Scenario → SiteTree → List SlotTree → List (Option Span)
slot_bounds m t site slots = map (λ slot. bound_of (slot_at m t site slot)) slots

-- the bounds of what stands in a blank
abbrev pub bound_in : ModelTree → Scenario → Blank → Option Span
bound_in m t blank = bound_of (value_or (stands_in t blank) (open_value blank (hull (domain_of m t.actions blank))))

-- bounds of blanks, within what is known of them
pub record LieInBlanks (m : ModelTree) (t : Scenario) (blanks : List Blank) (bounds : List (Option Span)) : Type 0 where
  pub long : length bounds ≡ length blanks
  pub each : (i : ℕ) (blank : Blank) → slice_get blanks i ≡ Some blank → IsInside (bound_at bounds i) (bound_in m t blank)

-- The expression is the constraint at the site, over the values that stand in blanks, in every scenario that differs in values
-- alone; and at bounds within what is known of the blanks its span lies within the constraint's.
pub record IsWriting (m : ModelTree) (s : Scenario) (blanks : List Blank) (site : SiteTree) (k : ConstraintTree) (e : Expression) : Type 0 where
  pub variables : HasVariablesBelow (length blanks) e
  pub value_is : (t : Scenario) (values : List (Option ℤ)) → IsSameButValues s t → ((i : ℕ) (blank : Blank) → slice_get blanks i ≡ Some blank → stands_in t blank ≡ variable_value values i)
      → value e values ≡ value k.expression (slot_values m t site k.slots)
  pub span_is : (t : Scenario) (bounds : List (Option Span)) → IsSameButValues s t → LinksJoin t.actions → LieInBlanks m t blanks bounds
      → IsInside (interval e bounds) (interval k.expression (slot_bounds m t site k.slots))

-- a constraint over the blanks that holds of their values wherever the scenario's constraints do
pub record IsImplied (m : ModelTree) (u : Scenario) (e : Expression) : Type 0 where
  pub variables : HasVariablesBelow (length (all_blanks m u)) e
  pub met : (t : Scenario) (values : List (Option ℤ)) → IsWithValues m u values t → Holds m t → IsMet e values

-- constraints over the blanks that hold wherever the scenario's constraints do
pub record AreWritten (m : ModelTree) (u : Scenario) (es : List Expression) : Type 0 where
  pub variables : HaveVariablesBelow (length (all_blanks m u)) es
  pub met : (chosen : List ℕ) → AreOptions m u.actions (all_blanks m u) chosen → Holds m (filled m (all_blanks m u) chosen (with_firsts m u)) → AreMet es (blank_values m u.actions (all_blanks m u) chosen)
