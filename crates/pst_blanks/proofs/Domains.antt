-- The values that a field may have, by the list of fields that a blank is of.
use Rattle.std.proofs.Common.{◌≡◌, ℕ, List, Option, Some, None, refl, ap, ◌∙◌}
use Rattle.std.specs.Prelude.{slice_get}
use Rattle.std.specs.Option.{option_and_then}
use Rattle.pst_expr.specs.declared.ranges.Span.{Span}
use Rattle.pst_model.specs.declared.action.Claim.{Claim}
use Rattle.pst_model.specs.declared.model.Pool.{Pool}
use Rattle.pst_model.specs.ModelTree.{ModelTree, ActionTree, ObjectTree}
use Rattle.pst_scen.specs.declared.act.Act.{Act}
use Rattle.pst_scen.specs.declared.act.Filled.{Filled}
use Rattle.pst_scen.specs.Scenarios.{reference_at}
use Rattle.pst_legal.specs.Types.{type_of, action_field, object_field, action_claim, pool_object}
use Rattle.pst_legal.specs.Blanks.{Blank, Instance, OfFirst, OfAct, OfOutput, OfClaim, fields_of, act_fields, pool_field, claim_field, domain_in}
use Rattle.pst_blanks.specs.Blanks.{IsDomainOf}
use Rattle.pst_blanks.specs.Fields.{fields_in, number_of}
use Rattle.pst_blanks.specs.Placed.{IsValue}

type_field : (o : Option ActionTree) (n : ℕ) → slice_get (act_fields o) n ≡ option_and_then (λ type. slice_get type.fields n) o
type_field None n = refl
type_field (Some type) n = refl

field_in : (o : Option ObjectTree) (n : ℕ) → slice_get (fields_of o) n ≡ option_and_then (λ type. slice_get type.fields n) o
field_in None n = refl
field_in (Some type) n = refl

module _ (m : ModelTree) (field : ℕ) where
  own_domain : (o : Option Act) → domain_in (slice_get (act_fields (option_and_then (λ a. type_of m a.action) o)) field) ≡ domain_in (option_and_then (λ a. action_field m a.action field) o)
  own_domain None = refl
  own_domain (Some a) = ap domain_in (type_field (type_of m a.action) field)

  in_pool : (o : Option Pool) → domain_in (slice_get (fields_of (option_and_then (λ p. slice_get m.objects p.object) o)) field) ≡ domain_in (option_and_then (λ p. object_field m p.object field) o)
  in_pool None = refl
  in_pool (Some p) = ap domain_in (field_in (slice_get m.objects p.object) field)

  output_domain : (o : Option Filled) → domain_in (slice_get (fields_of (option_and_then (λ f. pool_object m f.pool) o)) field) ≡ domain_in (option_and_then (λ f. pool_field m f.pool field) o)
  output_domain None = refl
  output_domain (Some f) = in_pool (slice_get m.pools f.pool)

  in_claim : (o : Option Claim) → domain_in (slice_get (fields_of (option_and_then (λ c. slice_get m.objects c.object) o)) field) ≡ domain_in (option_and_then (λ c. object_field m c.object field) o)
  in_claim None = refl
  in_claim (Some c) = ap domain_in (field_in (slice_get m.objects c.object) field)

  claim_domain : (claim : ℕ) (o : Option Act)
      → domain_in (slice_get (fields_of (option_and_then (λ c. slice_get m.objects c.object) (option_and_then (λ a. action_claim m a.action claim) o))) field)
      ≡ domain_in (option_and_then (λ a. claim_field m a.action claim field) o)
  claim_domain claim None = refl
  claim_domain claim (Some a) = in_claim (action_claim m a.action claim)

pub field_domain : (m : ModelTree) (acts : List Act) (blank : Blank) (spans : List Span) → IsValue blank → spans ≡ domain_in (slice_get (fields_in m acts blank) (number_of blank)) → IsDomainOf m acts blank spans
field_domain m acts (Instance act claim) spans is e = absurd is
field_domain m acts (OfFirst pool field) spans is e = e ∙ in_pool m field (slice_get m.pools pool)
field_domain m acts (OfAct act field) spans is e = e ∙ own_domain m field (slice_get acts act)
field_domain m acts (OfOutput act reference field) spans is e = e ∙ output_domain m field (reference_at acts act reference)
field_domain m acts (OfClaim act claim field) spans is e = e ∙ claim_domain m field claim (slice_get acts act)
