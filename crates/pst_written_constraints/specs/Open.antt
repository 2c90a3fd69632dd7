-- Where no constraint over the blanks is refused, no constraint of the scenario is.
use Rattle.std.specs.Prelude.{◌≡◌, ℕ, ◌<◌, List, [], ◌∷◌, length, Contains, Option, Some, slice_get}
use Rattle.pst_expr.specs.declared.ranges.Span.{Span}
use Rattle.pst_expr.specs.Tree.{Expression}
use Rattle.pst_domain.specs.Bounds.{AreInside}
use Rattle.pst_narrow.specs.Narrowing.{AreOpen}
use Rattle.pst_model.specs.ConstraintTree.{ConstraintTree}
use Rattle.pst_model.specs.ModelTree.{ModelTree}
use Rattle.pst_scen.specs.declared.act.Act.{Act}
use Rattle.pst_scen.specs.declared.scenario.Scenario.{Scenario}
use Rattle.pst_legal.specs.Blanks.{Blank, domain_of}
use Rattle.pst_legal.specs.Standing.{hull}
use Rattle.pst_legal.specs.ValueReading.{with_firsts}
use Rattle.pst_legal.specs.First.{NoneRefused}
use Rattle.pst_few_places.specs.Fillings.{all_blanks, filled}
use Rattle.pst_refusals.specs.Answers.{StandEarlier}
use Rattle.pst_blank_values.specs.Values.{value_of_option}
use Rattle.pst_constraint_sites.specs.Sites.{SiteTree}
use Rattle.pst_constraint_sites.specs.Senses.{LinksJoin}
use Rattle.pst_constraint_sites.specs.Groups.{GroupTree, groups}
use Rattle.pst_written_constraints.specs.Written.{IsWriting}

-- the spans of blanks of which the first ones have these options
abbrev pub blank_bounds : ModelTree → List Act → List Blank → List ℕ → List (Option Span)
blank_bounds m acts [] chosen = []
blank_bounds m acts (blank ∷ blanks) [] = hull (domain_of m acts blank) ∷ blank_bounds m acts blanks []
blank_bounds m acts (blank ∷ blanks) (k ∷ chosen) = Some (record { low = value_of_option m acts blank k; high = value_of_option m acts blank k }) ∷ blank_bounds m acts blanks chosen

-- a constraint at a site is one of those that are written
pub record HasWriting (m : ModelTree) (s : Scenario) (blanks : List Blank) (es : List Expression) (site : SiteTree) (k : ConstraintTree) : Type 0 where
  pub written : Expression
  pub is : Contains es written
  pub writes : IsWriting m s blanks site k written

-- so are the first n at a site
abbrev pub AreWrittenTo : ModelTree → Scenario → List Blank → List Expression → SiteTree → List ConstraintTree → ℕ → Type 0
AreWrittenTo m s blanks es site ks n = (i : ℕ) (k : ConstraintTree) → i < n → slice_get ks i ≡ Some k → HasWriting m s blanks es site k

-- so are all of a group
abbrev pub AreAllWritten : ModelTree → Scenario → List Blank → List Expression → GroupTree → Type 0
AreAllWritten m s blanks es group = (i : ℕ) (k : ConstraintTree) → slice_get group.constraints i ≡ Some k → HasWriting m s blanks es group.site k

-- so are all of the first n groups
abbrev pub AreGroupsWritten : ModelTree → Scenario → List Blank → List Expression → List GroupTree → ℕ → Type 0
AreGroupsWritten m s blanks es gs n = (i : ℕ) (group : GroupTree) → i < n → slice_get gs i ≡ Some group → AreAllWritten m s blanks es group

-- so are all of a scenario
abbrev pub IsAllWritten : ModelTree → Scenario → List Blank → List Expression → Type 0
IsAllWritten m s blanks es = (i : ℕ) (group : GroupTree) → slice_get (groups m s) i ≡ Some group → AreAllWritten m s blanks es group

-- expressions that were there are there
abbrev pub Stay : List Expression → List Expression → Type 0
Stay old new = (e : Expression) → Contains old e → Contains new e

-- Where the first blanks have any options, and no constraint over the blanks is refused at bounds within those of the blanks, no
-- constraint of the scenario with these options is refused.
abbrev pub OpenTogether : ModelTree → Scenario → List Expression → Type 0
OpenTogether m u es =
    (chosen : List ℕ) (bounds : List (Option Span)) → LinksJoin u.actions → StandEarlier u.nodes → length bounds ≡ length (all_blanks m u)
    → AreInside bounds (blank_bounds m u.actions (all_blanks m u) chosen) → AreOpen es bounds → NoneRefused m (filled m (all_blanks m u) chosen (with_firsts m u))
