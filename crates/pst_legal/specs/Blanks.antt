-- The values that a list of choices gives behind the sources: which there are, in order, and which values each may have.
use Rattle.std.specs.Prelude.{ℕ, ℤ, pos, ◌-◌, List, [], ◌∷◌, ◌++◌, length, map, Bool, ◌&&◌, nat_eq, if◌then◌else◌, Option, Some, None, slice_get, get_or, flat_map, option_to_list}
use Rattle.std.specs.List.{enumerate_from, filter, list_any, range_with_len}
use Rattle.std.specs.Option.{option_and_then}
use Rattle.pst_expr.specs.declared.ranges.Span.{Span}
use Rattle.pst_expr.specs.Spans.{values, size_of}
use Rattle.pst_model.specs.declared.action.Field.{Field}
use Rattle.pst_model.specs.declared.action.Claim.{Claim}
use Rattle.pst_model.specs.declared.model.Pool.{Pool}
use Rattle.pst_model.specs.ModelTree.{ModelTree, ActionTree, ObjectTree}
use Rattle.pst_scen.specs.declared.act.Act.{Act}
use Rattle.pst_scen.specs.declared.act.Filled.{Filled}
use Rattle.pst_scen.specs.Scenarios.{reference_at}
use Rattle.pst_legal.specs.Types.{type_of, action_field, object_field, action_claim, served_claim, pool_object, is_state_pool, is_output}

pub data Blank : Type 0 where
  -- which instance of the pool a claim claims
  Instance : (act claim : ℕ) → Blank
  -- a field of the first object of a state pool
  OfFirst : (pool field : ℕ) → Blank
  -- a field of an atomic action
  OfAct : (act field : ℕ) → Blank
  -- a field of the object that an output writes
  OfOutput : (act reference field : ℕ) → Blank
  -- a field of the resource that a claim claims
  OfClaim : (act claim field : ℕ) → Blank

-- ---- which there are

-- the numbers of a list's places
abbrev pub places : {A : Type 0} → List A → List ℕ
places xs = range_with_len 0 (length xs)

abbrev pub fields_of : Option ObjectTree → List Field
fields_of None = []
fields_of (Some object) = object.fields

abbrev pub claims_of : Option ActionTree → List Claim
claims_of None = []
claims_of (Some type) = type.claims

abbrev pub act_fields : Option ActionTree → List Field
act_fields None = []
act_fields (Some type) = type.fields

abbrev pub instance_blanks : ModelTree → ℕ × Act → List Blank
instance_blanks m e = map (Instance e.0) (places (claims_of (type_of m e.1.action)))

-- the instances of all claims, by action and claim
abbrev pub claim_blanks : ModelTree → List Act → List Blank
claim_blanks m acts = flat_map (instance_blanks m) (enumerate_from 0 acts)

abbrev pub refers_to : ℕ → Act → Bool
refers_to pool act = list_any (λ filled. nat_eq filled.pool pool) act.references

-- the state pools that a reference of an action has, in order
abbrev pub used_state_pools : ModelTree → List Act → List ℕ
used_state_pools m acts = filter (λ pool. is_state_pool m pool && list_any (refers_to pool) acts) (range_with_len 0 (length m.pools))

abbrev pub first_blanks : ModelTree → ℕ → List Blank
first_blanks m pool = map (OfFirst pool) (places (fields_of (pool_object m pool)))

abbrev pub output_blanks : ModelTree → ℕ → ℕ × Filled → List Blank
output_blanks m a e = if is_output e.1.flow then map (OfOutput a e.0) (places (fields_of (pool_object m e.1.pool))) else []

abbrev pub resource_blanks : ModelTree → ℕ → ℕ × Claim → List Blank
resource_blanks m a e = map (OfClaim a e.0) (places (fields_of (slice_get m.objects e.1.object)))

-- the fields of an action, then those of what it writes, then those of what it claims
abbrev pub act_blanks : ModelTree → ℕ × Act → List Blank
act_blanks m e =
    map (OfAct e.0) (places (act_fields (type_of m e.1.action)))
    ++ (flat_map (output_blanks m e.0) (enumerate_from 0 e.1.references) ++ flat_map (resource_blanks m e.0) (enumerate_from 0 (claims_of (type_of m e.1.action))))

-- the first objects' values, by pool, and then the actions' values
abbrev pub value_blanks : ModelTree → List Act → List Blank
value_blanks m acts = flat_map (first_blanks m) (used_state_pools m acts) ++ flat_map (act_blanks m) (enumerate_from 0 acts)

-- ---- which values they may have

-- the numbers of a pool's instances
abbrev pub instances_in : Option Pool → List Span
instances_in None = []
instances_in (Some pool) = if nat_eq pool.size 0 then [] else record { low = pos 0; high = pos (pool.size - 1) } ∷ []

-- the instances that a claim of an action may claim: none where no pool serves it
abbrev pub claim_instances : ModelTree → Act → ℕ → List Span
claim_instances m act claim = instances_in (option_and_then (λ pool. slice_get m.pools pool) (served_claim m act.action act.instance claim))

-- the field of that number of a pool's objects
abbrev pub pool_field : ModelTree → ℕ → ℕ → Option Field
pool_field m pool field = option_and_then (λ p. object_field m p.object field) (slice_get m.pools pool)

-- the field of that number of the resource of a claim
abbrev pub claim_field : ModelTree → ℕ → ℕ → ℕ → Option Field
claim_field m action claim field = option_and_then (λ c. object_field m c.object field) (action_claim m action claim)

abbrev pub domain_in : Option Field → List Span
domain_in None = []
domain_in (Some field) = field.domain

abbrev pub domain_of : ModelTree → List Act → Blank → List Span
domain_of m acts (Instance act claim) = flat_map (λ a. claim_instances m a claim) (option_to_list (slice_get acts act))
domain_of m acts (OfFirst pool field) = domain_in (pool_field m pool field)
domain_of m acts (OfAct act field) = domain_in (option_and_then (λ a. action_field m a.action field) (slice_get acts act))
domain_of m acts (OfOutput act reference field) = domain_in (option_and_then (λ f. pool_field m f.pool field) (reference_at acts act reference))
domain_of m acts (OfClaim act claim field) = domain_in (option_and_then (λ a. claim_field m a.action claim field) (slice_get acts act))

-- how many options a blank has
abbrev pub options : ModelTree → List Act → Blank → ℕ
options m acts blank = size_of (domain_of m acts blank)

-- its option of that number, in ascending order
abbrev pub option_value : ModelTree → List Act → Blank → ℕ → ℤ
option_value m acts blank k = get_or (values (domain_of m acts blank)) k (pos 0)
