-- Whether a header would print an element of an array.
use Rattle.std.specs.Prelude.{◌≡◌, ℕ, ℤ, List, Bool, true, false, ◌||◌, Option, None, Some, slice_get, ◌⊎◌}
use Rattle.pst_model.specs.declared.action.Field.{Field}
use Rattle.pst_model.specs.ModelTree.{ModelTree, ActionTree}
use Rattle.pst_scen.specs.declared.tree.Fill.{Fill}
use Rattle.pst_scen.specs.declared.tree.Fill.TheVariants.{Compound, Leaf, Sequence, Parallel, Schedule, Joined, Select, Repeat, Turn, If, Match}
use Rattle.pst_scen.specs.declared.act.Act.{Act}
use Rattle.pst_scen.specs.declared.act.Filled.{Filled}
use Rattle.pst_scen.specs.declared.act.Claimed.{Claimed}
use Rattle.pst_scen.specs.declared.scenario.First.{First}
use Rattle.pst_scen.specs.declared.scenario.Scenario.{Scenario}
use Rattle.pst_trace_texts.specs.Lines.{any_from}
use Rattle.pst_trace_texts.specs.Named.{action_fields, reference_fields, claim_fields, pool_fields, reference_in, claim_in}

abbrev pub is_some : Option ℕ → Bool
is_some None = false
is_some (Some index) = true

-- a value is printed as one of an element
abbrev pub is_element : Option Field → Bool
is_element None = false
is_element (Some field) = is_some field.element

abbrev pub has_element : List Field → List ℤ → Bool
has_element fields values = any_from (λ at value. is_element (slice_get fields at)) 0 values

abbrev pub fill_has_element : ModelTree → Fill → Bool
fill_has_element m (Compound action instance fields) = has_element (action_fields (slice_get m.actions action)) fields
fill_has_element m (Leaf act) = false
fill_has_element m Sequence = false
fill_has_element m Parallel = false
fill_has_element m Schedule = false
fill_has_element m (Joined parallel joined) = false
fill_has_element m (Select branch) = false
fill_has_element m Repeat = false
fill_has_element m (Turn index) = false
fill_has_element m (If taken) = false
fill_has_element m (Match arm) = false

abbrev pub reference_has_element : ModelTree → Option ActionTree → ℕ → Filled → Bool
reference_has_element m type number filled = has_element (reference_fields m (reference_in type number)) filled.values

abbrev pub claim_has_element : ModelTree → Option ActionTree → ℕ → Claimed → Bool
claim_has_element m type number claimed = has_element (claim_fields m (claim_in type number)) claimed.values

abbrev pub act_has_element : ModelTree → Act → Bool
act_has_element m act =
    has_element (action_fields (slice_get m.actions act.action)) act.fields
    || any_from (reference_has_element m (slice_get m.actions act.action)) 0 act.references
    || any_from (claim_has_element m (slice_get m.actions act.action)) 0 act.claims

-- some value of a first object, a compound action or an action of the scenario is one of an element
abbrev pub prints_element : ModelTree → Scenario → Bool
prints_element m s =
    any_from (λ number first. has_element (pool_fields m (slice_get m.pools first.pool)) first.values) 0 s.firsts
    || any_from (λ number node. fill_has_element m node.fill) 0 s.nodes
    || any_from (λ number act. act_has_element m act) 0 s.actions

-- a scenario has a header in format 2, and in format 1 where no element would be printed
abbrev pub HasHeader : ℕ → ModelTree → Scenario → Type 0
HasHeader format m s = (format ≡ 2) ⊎ ((format ≡ 1) × (prints_element m s ≡ false))
