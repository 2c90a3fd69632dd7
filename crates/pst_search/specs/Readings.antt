-- What whole lists of choices come to.
use Rattle.std.specs.Prelude.{◌≡◌, Option, None, Some}
use Rattle.pst_model.specs.ModelView.{view_model}
use Rattle.pst_scen.specs.declared.next.Next.TheVariants as next_to
use Rattle.pst_scen.specs.declared.scenario.Scenario.{Scenario}
use Rattle.pst_scen.specs.Plan.{Entries}
use Rattle.pst_scen.specs.Plans.{IsPlanOf}
use Rattle.pst_legal.specs.ValueReading.{Answer, Options, Whole}
use Rattle.pst_built.specs.OrderStaysLaws.{IsBarren}
use Rattle.pst_shape.specs.Walks.{next_of}
use Rattle.pst_link_walk.specs.Walks.{Kept}
use Rattle.pst_list_walk.specs.Walks.{answer, IsRead}
use Rattle.pst_search_loop.specs.declared.walker.Look.{Look}
use Rattle.pst_search_loop.specs.declared.walker.Look.TheVariants as look
use Rattle.pst_search_loop.specs.Kept.{IsConflict}
use Rattle.pst_list_values.specs.Walked.{kept_of}
use Rattle.pst_search.specs.declared.planned.Planned.{Planned}
use Rattle.pst_search.specs.declared.planned.Planned.TheVariants as planned

-- no list that begins with these choices reads a legal scenario
abbrev pub barren_at : Kept → Type 0
barren_at k = IsBarren (view_model k.model) k.root k.seed k.level k.choices

-- what is shown is what the list comes to
abbrev pub IsAnswer : Answer → Look → Type 0
IsAnswer (Options s n) (look.Options count) = n ≡ count
IsAnswer (Whole s) look.Whole = Unit {0}
IsAnswer _ _ = ⊥

-- what is shown of a list, which is nothing at a dead end
abbrev pub IsShown : Answer → Option Look → Type 0
IsShown a (Some shown) = IsRead a × IsAnswer a shown
IsShown a None = next_of a ≡ next_to.Dead

-- a plan of the whole scenario of the list
abbrev pub HasPlan : Kept → Entries → Type 0
HasPlan k p = (s : Scenario) × (answer k ≡ Whole s) × IsPlanOf s p

abbrev pub IsPlanned : Kept → Option Entries → Type 0
IsPlanned k (Some p) = HasPlan k p
IsPlanned k None = Unit {0}

-- such a plan, or a conflict of the list
abbrev pub PlansWhole : Kept → Planned → Type 0
PlansWhole k (planned.There p) = HasPlan k p
PlansWhole k (planned.Refused c) = IsConflict (kept_of k) c

-- the whole scenario of the list, and its plan
abbrev pub IsFound : Kept → Scenario × Entries → Type 0
IsFound k found = (answer k ≡ Whole found.0) × IsPlanOf found.0 found.1
