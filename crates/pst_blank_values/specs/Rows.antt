-- The lists of values of a scenario, and what stands in its blanks.
use Rattle.std.specs.Prelude.{ℕ, ℤ, pos, List, [], map, Option, Some, None, slice_get}
use Rattle.pst_scen.specs.declared.act.Act.{Act}
use Rattle.pst_scen.specs.declared.scenario.Scenario.{Scenario}
use Rattle.pst_legal.specs.Blanks.{Blank, Instance, OfFirst, OfAct, OfOutput, OfClaim}
use Rattle.pst_legal.specs.Slots.{first_values, output_values, claim_values}

-- a list of values of an action
pub data Part : Type 0 where
  -- the instances that it claims
  Claims : Part
  -- its fields
  Fields : Part
  -- the fields of the object that an output writes
  Output : (reference : ℕ) → Part
  -- the fields of the resource that a claim claims
  Resource : (claim : ℕ) → Part

-- a list of values of a scenario
pub data Row : Type 0 where
  -- of the first object of a pool
  InFirst : (pool : ℕ) → Row
  -- of an action
  InAct : (act : ℕ) → (part : Part) → Row

abbrev pub values_of : Part → Act → List ℤ
values_of Claims x = map (λ claimed. pos claimed.instance) x.claims
values_of Fields x = x.fields
values_of (Output reference) x = output_values (slice_get x.references reference)
values_of (Resource claim) x = claim_values (slice_get x.claims claim)

abbrev pub of_act : Part → Option Act → List ℤ
of_act part None = []
of_act part (Some x) = values_of part x

abbrev pub values_in : Scenario → Row → List ℤ
values_in s (InFirst pool) = first_values s.firsts pool
values_in s (InAct act part) = of_act part (slice_get s.actions act)

-- the row of a blank, and its place there
abbrev pub row_of : Blank → Row
row_of (Instance act claim) = InAct act Claims
row_of (OfFirst pool field) = InFirst pool
row_of (OfAct act field) = InAct act Fields
row_of (OfOutput act reference field) = InAct act (Output reference)
row_of (OfClaim act claim field) = InAct act (Resource claim)

abbrev pub place_of : Blank → ℕ
place_of (Instance act claim) = claim
place_of (OfFirst pool field) = field
place_of (OfAct act field) = field
place_of (OfOutput act reference field) = field
place_of (OfClaim act claim field) = field

-- what stands in a blank: of a claim the number of the instance
abbrev pub stands_in : Scenario → Blank → Option ℤ
stands_in s blank = slice_get (values_in s (row_of blank)) (place_of blank)
