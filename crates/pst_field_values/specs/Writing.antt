-- Constraints written over the fields of an action, and over what else they speak of.
use Rattle.std.specs.Prelude.{◌≡◌, ◌⊎◌, ℕ, ◌+◌, ◌<◌, ℤ, List, length, map, All, Contains, Option, Some, slice_get}
use Rattle.pst_expr.specs.declared.ranges.Span.{Span}
use Rattle.pst_expr.specs.Tree.{Expression, view}
use Rattle.pst_expr.specs.Value.{variable_value}
use Rattle.pst_domain.specs.Bounds.{HasVariablesBelow}
use Rattle.pst_narrow.specs.Solutions.{IsMet}
use Rattle.pst_model.specs.ConstraintTree.{SlotTree, ConstraintTree}
use Rattle.pst_model.specs.ModelTree.{ModelTree}
use Rattle.pst_scen.specs.declared.scenario.Scenario.{Scenario}
use Rattle.pst_legal.specs.Standing.{value_of}
use Rattle.pst_legal.specs.Constraints.{Holds}
use Rattle.pst_constraint_sites.specs.Sites.{SiteTree}
use Rattle.pst_constraint_sites.specs.Laws.{HasAt}
use Rattle.pst_written_constraints.specs.declared.term.Term.{Term}
use Rattle.pst_written_constraints.specs.declared.term.Term.TheVariants as term
use Rattle.pst_field_values.specs.declared.subject.Subject.{Subject}
use Rattle.pst_field_values.specs.declared.subject.Position.{Position}
use Rattle.pst_field_values.specs.declared.written.Written.{Written}
use Rattle.pst_field_values.specs.Fields.{field_count, IsLater}
use Rattle.pst_field_values.specs.Quantities.{Quantity, standing_of, quantity_bounds, BeginWithFields}
use Rattle.pst_field_values.specs.Subjects.{IsFieldAt, IsThere}

-- ---- terms

abbrev pub IsNumbered : ℕ → ℕ → Term → Type 0
IsNumbered base index (term.Number v) = ⊥
IsNumbered base index (term.Variable i) = i ≡ base + index
IsNumbered base index term.Nothing = ⊥
IsNumbered base index term.Unknown = Unit {0}

-- a slot is written as the variable of a field of the action, or as one so many behind another one
abbrev pub IsTermAt : Subject → Position → SlotTree → ℕ → ℕ → Term → Type 0
IsTermAt subject position slot base index (term.Number v) = ⊥
IsTermAt subject position slot base index (term.Variable i) = (i ≡ base + index) ⊎ ((i < subject.fields) × IsFieldAt subject position slot i)
IsTermAt subject position slot base index term.Nothing = ⊥
IsTermAt subject position slot base index term.Unknown = Unit {0}

pub record AreTermsAt (subject : Subject) (position : Position) (slots : List SlotTree) (base : ℕ) (terms : List Term) : Type 0 where
  pub long : length terms ≡ length slots
  pub each : (i : ℕ) (slot : SlotTree) (x : Term) → slice_get slots i ≡ Some slot → slice_get terms i ≡ Some x → IsTermAt subject position slot base i x

-- ---- constraints

-- each later scenario has the constraint, at the site
abbrev pub Lasts : ModelTree → Scenario → SiteTree → ConstraintTree → Type 0
Lasts m s site k = (t : Scenario) → IsLater m s t → HasAt m t site k

abbrev pub AllLast : ModelTree → Scenario → SiteTree → List ConstraintTree → Type 0
AllLast m s site ks = (k : ConstraintTree) → Contains ks k → Lasts m s site k

-- values of variables are those of quantities in a scenario
abbrev pub AreValuesOf : ModelTree → Scenario → List Quantity → List (Option ℤ) → Type 0
AreValuesOf m t qs values = (i : ℕ) (q : Quantity) → slice_get qs i ≡ Some q → variable_value values i ≡ value_of (standing_of m t q)

-- an expression that is met by the values of quantities in each later scenario whose constraints hold
pub record IsKept (m : ModelTree) (s : Scenario) (qs : List Quantity) (e : Expression) : Type 0 where
  pub variables : HasVariablesBelow (length qs) e
  pub met : (t : Scenario) (values : List (Option ℤ)) → IsLater m s t → Holds m t → AreValuesOf m t qs values → IsMet e values

-- The constraints are kept, over quantities of which the first ones are the fields of the action of a node, and the bounds are those
-- that are known of these.
pub record AreOverAt (m : ModelTree) (s : Scenario) (n fields : ℕ) (es : List Expression) (bounds : List (Option Span)) : Type 0 where
  pub quantities : List Quantity
  pub own : BeginWithFields n fields quantities
  pub there : (i : ℕ) (q : Quantity) → slice_get quantities i ≡ Some q → IsThere s.nodes q.site
  pub bounds_are : bounds ≡ quantity_bounds m s quantities
  pub kept : All (IsKept m s quantities) es

abbrev pub AreOver : ModelTree → Scenario → Subject → Written → Type 0
AreOver m s subject written = AreOverAt m s subject.node subject.fields (map view written.constraints.items) written.bounds.items

abbrev pub AreOverFields : ModelTree → Scenario → ℕ → Written → Type 0
AreOverFields m s n written = AreOverAt m s n (field_count m s.nodes n) (map view written.constraints.items) written.bounds.items
