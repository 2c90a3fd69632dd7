-- The fields that blanks are of.
use Rattle.std.specs.Prelude.{ℕ, List, [], slice_get}
use Rattle.std.specs.Option.{option_and_then}
use Rattle.pst_model.specs.declared.action.Field.{Field}
use Rattle.pst_model.specs.ModelTree.{ModelTree}
use Rattle.pst_scen.specs.declared.act.Act.{Act}
use Rattle.pst_scen.specs.Scenarios.{reference_at}
use Rattle.pst_legal.specs.Types.{type_of, action_claim, pool_object}
use Rattle.pst_legal.specs.Blanks.{Blank, Instance, OfFirst, OfAct, OfOutput, OfClaim, fields_of, act_fields}

abbrev pub own_fields : ModelTree → List Act → ℕ → List Field
own_fields m acts act = act_fields (option_and_then (λ a. type_of m a.action) (slice_get acts act))

abbrev pub output_fields : ModelTree → List Act → ℕ → ℕ → List Field
output_fields m acts act reference = fields_of (option_and_then (λ f. pool_object m f.pool) (reference_at acts act reference))

abbrev pub claim_fields : ModelTree → List Act → ℕ → ℕ → List Field
claim_fields m acts act claim = fields_of (option_and_then (λ c. slice_get m.objects c.object) (option_and_then (λ a. action_claim m a.action claim) (slice_get acts act)))

-- the list of fields that a blank for a value is of
abbrev pub fields_in : ModelTree → List Act → Blank → List Field
fields_in m acts (Instance act claim) = []
fields_in m acts (OfFirst pool field) = fields_of (pool_object m pool)
fields_in m acts (OfAct act field) = own_fields m acts act
fields_in m acts (OfOutput act reference field) = output_fields m acts act reference
fields_in m acts (OfClaim act claim field) = claim_fields m acts act claim

-- and the number of its field
abbrev pub number_of : Blank → ℕ
number_of (Instance act claim) = 0
number_of (OfFirst pool field) = field
number_of (OfAct act field) = field
number_of (OfOutput act reference field) = field
number_of (OfClaim act claim field) = field
