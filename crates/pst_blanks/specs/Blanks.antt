-- Blanks as the program keeps them, and the list of all.
use Rattle.std.specs.Prelude.{◌≡◌, ℕ, ℤ, pos, ◌+◌, List, [], ◌∷◌, ◌++◌, length, map, Bool, if◌then◌else◌, Option, Some, None, slice_get, flat_map}
use Rattle.std.specs.List.{enumerate_from, range_with_len}
use Rattle.std.specs.Option.{option_and_then}
use Rattle.pst_expr.specs.declared.ranges.Span.{Span}
use Rattle.pst_model.specs.declared.action.Field.{Field}
use Rattle.pst_model.specs.declared.action.Claim.{Claim}
use Rattle.pst_model.specs.declared.model.Serve.{Serve}
use Rattle.pst_model.specs.Served.{pool_in}
use Rattle.pst_model.specs.ModelTree.{ModelTree, ActionTree}
use Rattle.pst_scen.specs.declared.act.Act.{Act}
use Rattle.pst_scen.specs.declared.act.Filled.{Filled}
use Rattle.pst_legal.specs.Types.{type_of, served_claim, pool_object, is_output}
use Rattle.pst_legal.specs.Blanks.{Blank as Read, Instance, OfFirst, OfAct, OfOutput, OfClaim, fields_of, claims_of, act_fields, claim_blanks, value_blanks, used_state_pools, domain_of, option_value}
use Rattle.pst_blanks.specs.declared.blank.Blank.{Blank}
use Rattle.pst_blanks.specs.declared.blank.Blank.TheVariants as blank
use Rattle.pst_blanks.specs.declared.blank.Place.{Place}

abbrev pub read_blank : Blank → Read
read_blank (blank.Instance act claim) = Instance act claim
read_blank (blank.OfFirst pool field) = OfFirst pool field
read_blank (blank.OfAct act field) = OfAct act field
read_blank (blank.OfOutput act reference field) = OfOutput act reference field
read_blank (blank.OfClaim act claim field) = OfClaim act claim field

abbrev pub blank_of : Place → Read
blank_of place = read_blank place.blank

-- the instances of all claims, and then all values
abbrev pub all_blanks : ModelTree → List Act → List Read
all_blanks m acts = claim_blanks m acts ++ value_blanks m acts

-- the value that is the option of that number: of a claim the number of the instance
abbrev pub blank_value : ModelTree → List Act → Read → ℕ → ℤ
blank_value m acts (Instance act claim) k = pos k
blank_value m acts (OfFirst pool field) k = option_value m acts (OfFirst pool field) k
blank_value m acts (OfAct act field) k = option_value m acts (OfAct act field) k
blank_value m acts (OfOutput act reference field) k = option_value m acts (OfOutput act reference field) k
blank_value m acts (OfClaim act claim field) k = option_value m acts (OfClaim act claim field) k

-- these are the values that a blank for one may have
abbrev pub IsDomainOf : ModelTree → List Act → Read → List Span → Type 0
IsDomainOf m acts (Instance act claim) spans = ⊥
IsDomainOf m acts (OfFirst pool field) spans = spans ≡ domain_of m acts (OfFirst pool field)
IsDomainOf m acts (OfAct act field) spans = spans ≡ domain_of m acts (OfAct act field)
IsDomainOf m acts (OfOutput act reference field) spans = spans ≡ domain_of m acts (OfOutput act reference field)
IsDomainOf m acts (OfClaim act claim field) spans = spans ≡ domain_of m acts (OfClaim act claim field)

-- the same for the field of that number
abbrev pub with_field : Blank → ℕ → Blank
with_field (blank.Instance act claim) number = blank.Instance act claim
with_field (blank.OfFirst pool field) number = blank.OfFirst pool number
with_field (blank.OfAct act field) number = blank.OfAct act number
with_field (blank.OfOutput act reference field) number = blank.OfOutput act reference number
with_field (blank.OfClaim act claim field) number = blank.OfClaim act claim number

-- ---- the list of all, with where each is looked up

-- the blanks of these fields, numbered from there on
abbrev pub fields_from : Blank → Option ℕ → ℕ → List Field → List Place
fields_from b at number fields = map (λ n. record { blank = with_field b n; at = at }) (range_with_len number (length fields))

abbrev pub field_places : Blank → Option ℕ → List Field → List Place
field_places b at fields = fields_from b at 0 fields

-- the instance of a claim of an action, of which so many references stand before the first claim
abbrev pub claim_place : List Serve → ℕ → ℕ → ℕ → ℕ → ℕ → Place
claim_place served act action instance references claim = record { blank = blank.Instance act claim; at = pool_in served action instance (references + claim) }

-- those of these claims, numbered from there on
abbrev pub claims_from : List Serve → ℕ → ℕ → ℕ → ℕ → ℕ → List Claim → List Place
claims_from served act action instance references number claims = map (claim_place served act action instance references) (range_with_len number (length claims))

abbrev pub reference_count : Option ActionTree → ℕ
reference_count None = 0
reference_count (Some type) = length type.references

-- the instances of the claims of an action
abbrev pub act_claims : ModelTree → ℕ × Act → List Place
act_claims m e = claims_from m.served e.0 e.1.action e.1.instance (reference_count (type_of m e.1.action)) 0 (claims_of (type_of m e.1.action))

-- the fields of the first object of a pool, which has that number among the first objects
abbrev pub first_places : ModelTree → ℕ × ℕ → List Place
first_places m e = field_places (blank.OfFirst e.1 0) (Some e.0) (fields_of (pool_object m e.1))

abbrev pub output_places : ModelTree → ℕ → ℕ × Filled → List Place
output_places m a e = if is_output e.1.flow then field_places (blank.OfOutput a e.0 0) None (fields_of (pool_object m e.1.pool)) else []

abbrev pub resource_places : ModelTree → ℕ → ℕ × Claim → List Place
resource_places m a e = field_places (blank.OfClaim a e.0 0) None (fields_of (slice_get m.objects e.1.object))

abbrev pub act_places : ModelTree → ℕ × Act → List Place
act_places m e =
    field_places (blank.OfAct e.0 0) None (act_fields (type_of m e.1.action))
    ++ (flat_map (output_places m e.0) (enumerate_from 0 e.1.references) ++ flat_map (resource_places m e.0) (enumerate_from 0 (claims_of (type_of m e.1.action))))

abbrev pub listed : ModelTree → List Act → List Place
listed m acts =
    flat_map (act_claims m) (enumerate_from 0 acts)
    ++ (flat_map (first_places m) (enumerate_from 0 (used_state_pools m acts)) ++ flat_map (act_places m) (enumerate_from 0 acts))

-- the pool that serves a claim of an action
abbrev pub served_at : ModelTree → List Act → ℕ → ℕ → Option ℕ
served_at m acts act claim = option_and_then (λ a. served_claim m a.action a.instance claim) (slice_get acts act)

-- the pool, if it is used
abbrev pub pool_if : Bool → ℕ → List ℕ
pool_if used pool = if used then pool ∷ [] else []
