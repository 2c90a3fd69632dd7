-- What a slot may be open for is among the blanks of its scenario.
use Rattle.std.proofs.Common.{◌≡◌, ℕ, zero, suc, ◌+◌, ◌<◌, List, [], ◌++◌, length, map, Bool, true, ◌&&◌, nat_eq, if◌then◌else◌, Option, Some, None, refl, sym, ap, ◌∙◌, subst, inl, inr, arith, length-append}
use Rattle.std.specs.Prelude.{slice_get, flat_map}
use Rattle.std.specs.List.{enumerate_from, list_any, range_with_len}
use Rattle.std.specs.Option.{option_and_then}
use Rattle.std.proofs.lemmas.List.{length-map}
use Rattle.std.proofs.lemmas.Option.{none-some, slice_get_within}
use Rattle.std.proofs.lemmas.Bool.{eq-eqb, and_from}
use Rattle.pst_expr.specs.declared.ranges.Span.{Span}
use Rattle.pst_model.specs.declared.action.Field.{Field}
use Rattle.pst_model.specs.declared.action.Claim.{Claim}
use Rattle.pst_model.specs.declared.action.Reference.{Reference}
use Rattle.pst_model.specs.declared.model.Pool.{Pool}
use Rattle.pst_model.specs.Served.{objects_of}
use Rattle.pst_model.specs.ModelTree.{ModelTree, ActionTree, ObjectTree}
use Rattle.pst_model.specs.Sound.{IsSound}
use Rattle.pst_scen.specs.declared.act.Act.{Act}
use Rattle.pst_scen.specs.declared.act.Filled.{Filled}
use Rattle.pst_scen.specs.declared.scenario.Scenario.{Scenario}
use Rattle.pst_legal.specs.Types.{type_of, action_field, object_field, served, served_claim, pool_object, is_state_pool, is_output}
use Rattle.pst_legal.specs.Blanks.{Blank, Instance, OfFirst, OfAct, OfOutput, OfClaim, places, fields_of, claims_of, act_fields, instance_blanks, claim_blanks, refers_to, used_state_pools, first_blanks, output_blanks, resource_blanks, act_blanks, value_blanks, instances_in, claim_instances, claim_field}
use Rattle.pst_legal.specs.Standing.{hull, field_span}
use Rattle.pst_legal.specs.Slots.{pool_span}
use Rattle.pst_built.proofs.Members.{In, in_get, to_left, to_right, to_map, to_flat_map, to_numbered, to_filter, any_from}
use Rattle.pst_built.proofs.SoundActs.{served_pool}
use Rattle.pst_few_places.specs.Fillings.{all_blanks}

-- ---- numbers of places

to_range : (first n i : ℕ) → i < n → In (first + i) (range_with_len first n)
to_range first zero i l = absurd (omega (arith, l))
to_range first (suc n) zero l = inl (omega arith)
to_range first (suc n) (suc i) l = let e : (first + 1) + i ≡ first + suc i = omega arith in inr (subst (λ k. In k (range_with_len (first + 1) n)) e (to_range (first + 1) n i (omega (arith, l))))

pub to_place : {A : Type 0} (xs : List A) (k : ℕ) → k < length xs → In k (places xs)
to_place xs k l = let e : 0 + k ≡ k = omega arith in subst (λ i. In i (places xs)) e (to_range 0 (length xs) k l)

-- ---- fields that have a span

-- a field that has a span is there
has_span : (fields : List Field) (i : ℕ) (o : Option Field) (span : Span) → slice_get fields i ≡ o → field_span o ≡ Some span → i < length fields
has_span fields i None span is e = absurd (none-some span e)
has_span fields i (Some field) span is e = slice_get_within fields i field is

-- of an object, if there is one
object_place : (object : Option ObjectTree) (i : ℕ) (span : Span) → field_span (option_and_then (λ (type : ObjectTree). slice_get type.fields i) object) ≡ Some span → In i (places (fields_of object))
object_place None i span e = absurd (none-some span e)
object_place (Some object) i span e = to_place object.fields i (has_span object.fields i (slice_get object.fields i) span refl e)

action_place : (type : Option ActionTree) (i : ℕ) (span : Span) → field_span (option_and_then (λ (t : ActionTree). slice_get t.fields i) type) ≡ Some span → In i (places (act_fields type))
action_place None i span e = absurd (none-some span e)
action_place (Some type) i span e = to_place type.fields i (has_span type.fields i (slice_get type.fields i) span refl e)

-- of the objects of a pool
pool_place : (m : ModelTree) (pool i : ℕ) (span : Span) → pool_span m pool i ≡ Some span → In i (places (fields_of (pool_object m pool)))
pool_place m pool i span e = by (slice_get m.pools pool) e
  where
    by : (p : Option Pool) → field_span (option_and_then (λ (x : Pool). object_field m x.object i) p) ≡ Some span → In i (places (fields_of (option_and_then (λ (x : Pool). slice_get m.objects x.object) p)))
    by None h = absurd (none-some span h)
    by (Some p) h = object_place (slice_get m.objects p.object) i span h

-- of the resource of a claim
claim_place : (m : ModelTree) (type : Option ActionTree) (c i : ℕ) (span : Span) → field_span (option_and_then (λ (k : Claim). object_field m k.object i) (option_and_then (λ (t : ActionTree). slice_get t.claims c) type)) ≡ Some span
    → (claim : Claim) × (slice_get (claims_of type) c ≡ Some claim) × In i (places (fields_of (slice_get m.objects claim.object)))
claim_place m None c i span e = absurd (none-some span e)
claim_place m (Some type) c i span e = by (slice_get type.claims c) refl e
  where
    by : (o : Option Claim) → slice_get type.claims c ≡ o → field_span (option_and_then (λ (k : Claim). object_field m k.object i) o) ≡ Some span
        → (claim : Claim) × (slice_get type.claims c ≡ Some claim) × In i (places (fields_of (slice_get m.objects claim.object)))
    by None is h = absurd (none-some span h)
    by (Some claim) is h = (claim, is, object_place (slice_get m.objects claim.object) i span h)

-- ---- blanks

module _ (m : ModelTree) (s : Scenario) where
  abbrev acts : List Act
  acts = s.actions

  among_values : (a : ℕ) (x : Act) (blank : Blank) → slice_get acts a ≡ Some x → In blank (act_blanks m (a, x)) → In blank (all_blanks m s)
  among_values a x blank at has =
      to_right (claim_blanks m acts) (value_blanks m acts) blank
      (to_right (flat_map (first_blanks m) (used_state_pools m acts)) (flat_map (act_blanks m) (enumerate_from 0 acts)) blank
      (to_flat_map (act_blanks m) (enumerate_from 0 acts) (a, x) blank (to_numbered acts a x at) has))

  module _ (a : ℕ) (x : Act) (at : slice_get acts a ≡ Some x) where
    abbrev own_blanks : List Blank
    own_blanks = map (OfAct a) (places (act_fields (type_of m x.action)))

    abbrev outputs : List Blank
    outputs = flat_map (output_blanks m a) (enumerate_from 0 x.references)

    abbrev resources : List Blank
    resources = flat_map (resource_blanks m a) (enumerate_from 0 (claims_of (type_of m x.action)))

    pub own_in : (i : ℕ) (span : Span) → field_span (action_field m x.action i) ≡ Some span → In (OfAct a i) (all_blanks m s)
    own_in i span e =
        among_values a x (OfAct a i) at
        (to_left own_blanks (outputs ++ resources) (OfAct a i) (to_map (OfAct a) (places (act_fields (type_of m x.action))) i (action_place (type_of m x.action) i span e)))

    pub output_in : (r i : ℕ) (filled : Filled) (span : Span) → slice_get x.references r ≡ Some filled → is_output filled.flow ≡ true → pool_span m filled.pool i ≡ Some span → In (OfOutput a r i) (all_blanks m s)
    output_in r i filled span has output e =
        let listed : List Blank = map (OfOutput a r) (places (fields_of (pool_object m filled.pool))) in
        let here : In (OfOutput a r i) (output_blanks m a (r, filled)) =
        subst (λ b. In (OfOutput a r i) (if b then listed else [])) (sym output) (to_map (OfOutput a r) (places (fields_of (pool_object m filled.pool))) i (pool_place m filled.pool i span e)) in
        among_values a x (OfOutput a r i) at
        (to_right own_blanks (outputs ++ resources) (OfOutput a r i)
        (to_left outputs resources (OfOutput a r i) (to_flat_map (output_blanks m a) (enumerate_from 0 x.references) (r, filled) (OfOutput a r i) (to_numbered x.references r filled has) here)))

    pub resource_in : (c i : ℕ) (span : Span) → field_span (claim_field m x.action c i) ≡ Some span → In (OfClaim a c i) (all_blanks m s)
    resource_in c i span e =
        let claim = claim_place m (type_of m x.action) c i span e in
        let here : In (OfClaim a c i) (resource_blanks m a (c, claim.0)) = to_map (OfClaim a c) (places (fields_of (slice_get m.objects claim.0.object))) i claim.2 in
        among_values a x (OfClaim a c i) at
        (to_right own_blanks (outputs ++ resources) (OfClaim a c i)
        (to_right outputs resources (OfClaim a c i)
        (to_flat_map (resource_blanks m a) (enumerate_from 0 (claims_of (type_of m x.action))) (c, claim.0) (OfClaim a c i) (to_numbered (claims_of (type_of m x.action)) c claim.0 claim.1) here)))

    -- a claim of which the pool is known
    claim_in : (c : ℕ) → c < length (claims_of (type_of m x.action)) → In (Instance a c) (all_blanks m s)
    claim_in c l =
        to_left (claim_blanks m acts) (value_blanks m acts) (Instance a c)
        (to_flat_map (instance_blanks m) (enumerate_from 0 acts) (a, x) (Instance a c) (to_numbered acts a x at)
        (to_map (Instance a) (places (claims_of (type_of m x.action))) c (to_place (claims_of (type_of m x.action)) c l)))

    pub instance_in : IsSound m → (type : ActionTree) → type_of m x.action ≡ Some type → (c : ℕ) (span : Span) → hull (claim_instances m x c) ≡ Some span → In (Instance a c) (all_blanks m s)
    instance_in sound type is c span e = by (served_claim m x.action x.instance c) refl e
      where
        by : (o : Option ℕ) → served_claim m x.action x.instance c ≡ o → hull (instances_in (option_and_then (λ pool. slice_get m.pools pool) o)) ≡ Some span → In (Instance a c) (all_blanks m s)
        by None at h = absurd (none-some span h)
        by (Some pool) at h =
            let served_is : served m x.action x.instance (length type.references + c) ≡ Some pool =
            sym (ap (option_and_then (λ (t : ActionTree). served m x.action x.instance (length t.references + c))) is) ∙ at in
            let from = served_pool m sound x.action x.instance (length type.references + c) pool type is served_is in
            let within = slice_get_within (objects_of type) (length type.references + c) from.0.object from.2 in
            let one = length-map type.references (λ (r : Reference). r.object) in
            let two = length-map type.claims (λ (k : Claim). k.object) in
            let both = length-append (map (λ (r : Reference). r.object) type.references) (map (λ (k : Claim). k.object) type.claims) in
            let own : length (claims_of (type_of m x.action)) ≡ length type.claims = ap (λ o. length (claims_of o)) is in
            claim_in c (omega (arith, within, one, two, both, own))

    pub first_in : (r i : ℕ) (filled : Filled) (span : Span) → slice_get x.references r ≡ Some filled → is_state_pool m filled.pool ≡ true → pool_span m filled.pool i ≡ Some span → In (OfFirst filled.pool i) (all_blanks m s)
    first_in r i filled span has state e =
        let pool = filled.pool in
        let uses : refers_to pool x ≡ true = any_from (λ (f : Filled). nat_eq f.pool pool) x.references filled (in_get x.references r filled has) (eq-eqb pool pool refl) in
        let used : list_any (refers_to pool) acts ≡ true = any_from (refers_to pool) acts x (in_get acts a x at) uses in
        let test : ℕ → Bool = λ p. is_state_pool m p && list_any (refers_to p) acts in
        let listed : In pool (used_state_pools m acts) = to_filter test (range_with_len 0 (length m.pools)) pool (to_place m.pools pool (there pool e)) (and_from (is_state_pool m pool) (list_any (refers_to pool) acts) state used) in
        to_right (claim_blanks m acts) (value_blanks m acts) (OfFirst pool i)
        (to_left (flat_map (first_blanks m) (used_state_pools m acts)) (flat_map (act_blanks m) (enumerate_from 0 acts)) (OfFirst pool i)
        (to_flat_map (first_blanks m) (used_state_pools m acts) pool (OfFirst pool i) listed (to_map (OfFirst pool) (places (fields_of (pool_object m pool))) i (pool_place m pool i span e))))
      where
        there : (pool : ℕ) → pool_span m pool i ≡ Some span → pool < length m.pools
        there pool h = by (slice_get m.pools pool) refl h
          where
            by : (p : Option Pool) → slice_get m.pools pool ≡ p → field_span (option_and_then (λ (y : Pool). object_field m y.object i) p) ≡ Some span → pool < length m.pools
            by None at k = absurd (none-some span k)
            by (Some p) at k = slice_get_within m.pools pool p at
