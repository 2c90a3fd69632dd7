-- Behind the sources each blank has an option.
use Rattle.std.proofs.Common.{◌≡◌, ◌≢◌, ℕ, zero, suc, ◌+◌, ◌-◌, ◌<◌, ◌≤◌, ℤ, pos, ◌≤ℤ◌, List, [], ◌∷◌, ◌++◌, map, length, Bool, true, false, nat_eq, ◌&&◌, if◌then◌else◌, is_some, Option, Some, None, refl, sym, ap, ◌∙◌, subst, arith, append-nil, length-append, inl, inr, ⊎_elim}
use Rattle.std.specs.Prelude.{slice_get, flat_map, option_to_list}
use Rattle.std.specs.List.{enumerate_from, list_any, range_with_len}
use Rattle.std.specs.Option.{option_and_then}
use Rattle.std.proofs.lemmas.Bool.{eqb-true, and_parts, false≢true}
use Rattle.std.proofs.lemmas.Int.{ints}
use Rattle.std.proofs.lemmas.List.{length-map}
use Rattle.std.proofs.lemmas.List.Sums.{sum_by-cons}
use Rattle.std.proofs.lemmas.Option.{none-some}
use Rattle.pst_expr.specs.declared.ranges.Span.{Span}
use Rattle.pst_expr.specs.Spans.{IsDomain, count_of, size_of}
use Rattle.pst_model.specs.declared.action.Claim.{Claim}
use Rattle.pst_model.specs.declared.action.Field.{Field}
use Rattle.pst_model.specs.declared.action.Reference.{Reference}
use Rattle.pst_model.specs.declared.model.Pool.{Pool}
use Rattle.pst_model.specs.declared.object.ObjectKind.TheVariants.{State, Resource}
use Rattle.pst_model.specs.ModelTree.{ModelTree, ActionTree, ObjectTree}
use Rattle.pst_model.specs.Served.{objects_of}
use Rattle.pst_model.specs.Sound.{IsSound, IsSoundAction, IsSoundObject, IsSoundField, IsSoundClaim, IsSoundPool}
use Rattle.pst_scen.specs.declared.act.Act.{Act}
use Rattle.pst_scen.specs.declared.act.Filled.{Filled}
use Rattle.pst_scen.specs.declared.scenario.Scenario.{Scenario}
use Rattle.pst_legal.specs.Types.{type_of, has_kind, pool_object, served, served_claim, is_state_pool, action_claim, object_field, is_output}
use Rattle.pst_legal.specs.Blanks.{Instance, OfFirst, OfAct, OfOutput, OfClaim, places, fields_of, claims_of, act_fields, instance_blanks, claim_blanks, refers_to, used_state_pools, first_blanks, output_blanks, resource_blanks, act_blanks, value_blanks, instances_in, claim_instances, pool_field, claim_field, domain_in, domain_of, options}
use Rattle.pst_built.proofs.Members.{In, in_append, in_map, in_flat_map, in_filter, in_if, in_numbered}
use Rattle.pst_built.proofs.SoundActs.{all_get, some_and, served_pool}
use Rattle.pst_built.proofs.Spots.{at_act}
use Rattle.pst_built.proofs.Lists.{get_below}
use Rattle.pst_built.proofs.ReachedValues.{pool_field_is}
use Rattle.pst_built.proofs.Fresh.{IsFresh, AreFresh}
use Rattle.pst_built.proofs.Served.{open_is}
use Rattle.pst_read_domains.proofs.ReadActsWhole.{instance_is}
use Rattle.pst_read_domains.proofs.Blanks.{HaveOptions}

in_range : (first n k : ℕ) → In k (range_with_len first n) → k < first + n
in_range first zero k has = absurd has
in_range first (suc n) k (inl e) = omega (arith, e)
in_range first (suc n) k (inr has) = let l = in_range (first + 1) n k has in omega (arith, l)

in_places : (n k : ℕ) → In k (range_with_len 0 n) → k < n
in_places n k has = let l = in_range 0 n k has in omega (arith, l)

-- ---- domains

some_size : (spans : List Span) → IsDomain spans → 0 < size_of spans
some_size [] domain = absurd (domain.some refl)
some_size (s ∷ more) domain =
    let upright : s.low ≤ℤ s.high = all_get (λ (t : Span). t.low ≤ℤ t.high) (s ∷ more) 0 s domain.upright refl in
    let e = sum_by-cons count_of s more in
    omega (arith, ints, upright, e)

module _ (m : ModelTree) (sound : IsSound m) where
  field_room : (fields : List Field) (f : ℕ) → ((k : ℕ) (field : Field) → slice_get fields k ≡ Some field → IsSoundField field) → f < length fields → 0 < size_of (domain_in (slice_get fields f))
  field_room fields f each l =
      let x = get_below fields f l in
      subst (λ o. 0 < size_of (domain_in o)) (sym x.1) (some_size x.0.domain (each f x.0 x.1).domain)

  object_room : (n : ℕ) (object : ObjectTree) (f : ℕ) → slice_get m.objects n ≡ Some object → f < length object.fields → 0 < size_of (domain_in (slice_get object.fields f))
  object_room n object f is l =
      let whole = all_get IsSoundObject m.objects n object sound.objects is in
      field_room object.fields f (λ k field at. all_get IsSoundField object.fields k field whole.fields at) l

  pool_room : (pool : Pool) → 1 ≤ pool.size → 0 < size_of (instances_in (Some pool))
  pool_room pool least = by (nat_eq pool.size 0) refl
    where
      by : (b : Bool) → nat_eq pool.size 0 ≡ b → 0 < size_of (if b then [] else record { low = pos 0; high = pos (pool.size - 1) } ∷ [])
      by true e = let none : pool.size ≡ 0 = eqb-true pool.size 0 e in absurd (omega (arith, least, none))
      by false e = omega (arith, ints, least)

  some_of : {A : Type 0} (o : Option A) → is_some o ≡ true → (x : A) × (o ≡ Some x)
  some_of None e = absurd (false≢true e)
  some_of (Some x) e = (x, refl)

  -- the pool that serves a claim
  claim_pool : (x : Act) (own : IsFresh m x) (c : ℕ) → c < length own.concrete.type.claims
      → (p : ℕ) × (pool : Pool) × (served m x.action x.instance (length own.concrete.type.references + c) ≡ Some p) × (slice_get m.pools p ≡ Some pool)
  claim_pool x own c l =
      let type = own.concrete.type in
      let part = instance_is m type own.concrete.top x.instance own.concrete.inside in
      let n = length type.references + c in
      let one = length-map type.references (λ (r : Reference). r.object) in
      let two = length-map type.claims (λ (k : Claim). k.object) in
      let both = length-append (map (λ (r : Reference). r.object) type.references) (map (λ (k : Claim). k.object) type.claims) in
      let within : n < length (objects_of type) = omega (arith, l, one, two, both) in
      let pool = some_of (served m x.action x.instance n) (sound.whole x.action type own.concrete.is own.concrete.atomic own.concrete.concrete x.instance part.0 part.1 part.2 n within) in
      let from = served_pool m sound x.action x.instance n pool.0 type own.concrete.is pool.1 in
      (pool.0, from.0, pool.1, from.1)

  module _ (acts : List Act) (fresh : (a : ℕ) (x : Act) → slice_get acts a ≡ Some x → IsFresh m x) where
    -- ---- claims

    claims_have : HaveOptions m acts (claim_blanks m acts)
    claims_have blank has =
        let found = in_flat_map (instance_blanks m) (enumerate_from 0 acts) blank has in
        let a = found.0.0 in
        let x = found.0.1 in
        let at = in_numbered acts found.0 found.1 in
        let c = in_map (Instance a) (places (claims_of (type_of m x.action))) blank found.2 in
        subst (λ b. 0 < options m acts b) c.2 (claim_room a x at c.0 c.1)
      where
        claim_room : (a : ℕ) (x : Act) → slice_get acts a ≡ Some x → (c : ℕ) → In c (places (claims_of (type_of m x.action))) → 0 < options m acts (Instance a c)
        claim_room a x at c inside =
            let own = fresh a x at in
            let type = own.concrete.type in
            let listed = subst (λ o. In c (places (claims_of o))) own.concrete.is inside in
            let below : c < length type.claims = in_places (length type.claims) c listed in
            let pool = claim_pool x own c below in
            let room = pool_room pool.1 (all_get (IsSoundPool m) m.pools pool.0 pool.1 sound.pools pool.3).least in
            let served_is : served_claim m x.action x.instance c ≡ Some pool.0 = ap (option_and_then (λ (t : ActionTree). served m x.action x.instance (length t.references + c))) own.concrete.is ∙ pool.2 in
            let same : domain_of m acts (Instance a c) ≡ instances_in (Some pool.1) =
            ap (λ o. flat_map (λ z. claim_instances m z c) (option_to_list o)) at
            ∙ append-nil (claim_instances m x c)
            ∙ ap (λ o. instances_in (option_and_then (λ p. slice_get m.pools p) o)) served_is ∙ ap instances_in pool.3 in
            subst (λ spans. 0 < size_of spans) (sym same) room

    -- ---- values

    state_object : (pool : ℕ) (o : Option ObjectTree) → has_kind State o ≡ true → (object : ObjectTree) × (o ≡ Some object)
    state_object pool None e = absurd (false≢true e)
    state_object pool (Some object) e = (object, refl)

    -- the object of a pool is an object of the model
    of_pool : (pool : ℕ) (object : ObjectTree) → pool_object m pool ≡ Some object → (n : ℕ) × (slice_get m.objects n ≡ Some object)
    of_pool pool object e = by (slice_get m.pools pool) e
      where
        by : (o : Option Pool) → option_and_then (λ (q : Pool). slice_get m.objects q.object) o ≡ Some object → (n : ℕ) × (slice_get m.objects n ≡ Some object)
        by None h = absurd (none-some object h)
        by (Some p) h = (p.object, h)

    -- a field of the objects of a pool
    pool_field_room : (pool field : ℕ) (object : ObjectTree) → pool_object m pool ≡ Some object → field < length object.fields → 0 < size_of (domain_in (pool_field m pool field))
    pool_field_room pool field object is l =
        let n = of_pool pool object is in
        subst (λ o. 0 < size_of (domain_in o)) (sym (pool_field_is m pool field object is)) (object_room n.0 object field n.1 l)

    in_fields : (o : Option ObjectTree) (object : ObjectTree) (field : ℕ) → o ≡ Some object → In field (places (fields_of o)) → field < length object.fields
    in_fields o object field is has = in_places (length object.fields) field (subst (λ p. In field (places (fields_of p))) is has)

    firsts_have : HaveOptions m acts (flat_map (first_blanks m) (used_state_pools m acts))
    firsts_have blank has =
        let found = in_flat_map (first_blanks m) (used_state_pools m acts) blank has in
        let pool = found.0 in
        let test : ℕ → Bool = λ p. is_state_pool m p && list_any (refers_to p) acts in
        let used = in_filter test (range_with_len 0 (length m.pools)) pool found.1 in
        let object = state_object pool (pool_object m pool) (and_parts (is_state_pool m pool) (list_any (refers_to pool) acts) used.1).0 in
        let field = in_map (OfFirst pool) (places (fields_of (pool_object m pool))) blank found.2 in
        subst (λ b. 0 < options m acts b) field.2 (pool_field_room pool field.0 object.0 object.1 (in_fields (pool_object m pool) object.0 field.0 object.1 field.1))

    module _ (a : ℕ) (x : Act) (at : slice_get acts a ≡ Some x) where
      abbrev own : IsFresh m x
      own = fresh a x at

      abbrev type : ActionTree
      type = (fresh a x at).concrete.type

      own_fields : HaveOptions m acts (map (OfAct a) (places (act_fields (type_of m x.action))))
      own_fields blank has =
          let field = in_map (OfAct a) (places (act_fields (type_of m x.action))) blank has in
          let below : field.0 < length type.fields = in_places (length type.fields) field.0 (subst (λ o. In field.0 (places (act_fields o))) own.concrete.is field.1) in
          let whole = all_get (IsSoundAction m) m.actions x.action type sound.actions own.concrete.is in
          let room = field_room type.fields field.0 (λ k f is. all_get IsSoundField type.fields k f whole.fields is) below in
          let same : domain_of m acts (OfAct a field.0) ≡ domain_in (slice_get type.fields field.0) =
          ap (λ o. domain_in (option_and_then (λ (y : Act). option_and_then (λ (t : ActionTree). slice_get t.fields field.0) (type_of m y.action)) o)) at
          ∙ ap (λ o. domain_in (option_and_then (λ (t : ActionTree). slice_get t.fields field.0) o)) own.concrete.is in
          subst (λ b. 0 < options m acts b) field.2 (subst (λ spans. 0 < size_of spans) (sym same) room)

      outputs_have : HaveOptions m acts (flat_map (output_blanks m a) (enumerate_from 0 x.references))
      outputs_have blank has =
          let found = in_flat_map (output_blanks m a) (enumerate_from 0 x.references) blank has in
          let r = found.0.0 in
          let f = found.0.1 in
          let there = in_numbered x.references found.0 found.1 in
          let inside = in_if (is_output f.flow) (map (OfOutput a r) (places (fields_of (pool_object m f.pool)))) blank found.2 in
          let field = in_map (OfOutput a r) (places (fields_of (pool_object m f.pool))) blank inside.1 in
          let reference = open_is m sound x own r f there in
          let room = pool_field_room f.pool field.0 reference.object reference.of_pool (in_fields (pool_object m f.pool) reference.object field.0 reference.of_pool field.1) in
          let same : domain_of m acts (OfOutput a r field.0) ≡ domain_in (pool_field m f.pool field.0) =
          ap (λ o. domain_in (option_and_then (λ (g : Filled). pool_field m g.pool field.0) o)) (at_act acts a r x f at there) in
          subst (λ b. 0 < options m acts b) field.2 (subst (λ spans. 0 < size_of spans) (sym same) room)

      claim_room : (c : ℕ) (claim : Claim) → slice_get type.claims c ≡ Some claim → (field : ℕ) → In field (places (fields_of (slice_get m.objects claim.object))) → 0 < options m acts (OfClaim a c field)
      claim_room c claim is field inside =
          let whole = all_get (IsSoundAction m) m.actions x.action type sound.actions own.concrete.is in
          let o = some_and (slice_get m.objects claim.object) (λ (object : ObjectTree). object.kind ≡ Resource) (all_get (IsSoundClaim m.objects) type.claims c claim whole.claims is) in
          let room = object_room claim.object o.0 field o.1 (in_fields (slice_get m.objects claim.object) o.0 field o.1 inside) in
          let claim_is : action_claim m x.action c ≡ Some claim = ap (option_and_then (λ (t : ActionTree). slice_get t.claims c)) own.concrete.is ∙ is in
          let same : domain_of m acts (OfClaim a c field) ≡ domain_in (slice_get o.0.fields field) =
          ap (λ p. domain_in (option_and_then (λ (y : Act). claim_field m y.action c field) p)) at
          ∙ ap (λ p. domain_in (option_and_then (λ (z : Claim). object_field m z.object field) p)) claim_is
          ∙ ap (λ p. domain_in (option_and_then (λ (y : ObjectTree). slice_get y.fields field) p)) o.1 in
          subst (λ spans. 0 < size_of spans) (sym same) room

      resources_have : HaveOptions m acts (flat_map (resource_blanks m a) (enumerate_from 0 (claims_of (type_of m x.action))))
      resources_have blank has =
          let found = in_flat_map (resource_blanks m a) (enumerate_from 0 (claims_of (type_of m x.action))) blank has in
          let c = found.0.0 in
          let claim = found.0.1 in
          let there : slice_get type.claims c ≡ Some claim = subst (λ o. slice_get (claims_of o) c ≡ Some claim) own.concrete.is (in_numbered (claims_of (type_of m x.action)) found.0 found.1) in
          let field = in_map (OfClaim a c) (places (fields_of (slice_get m.objects claim.object))) blank found.2 in
          subst (λ b. 0 < options m acts b) field.2 (claim_room c claim there field.0 field.1)

      act_has : HaveOptions m acts (act_blanks m (a, x))
      act_has blank has =
          ⊎_elim (own_fields blank)
          (λ more. ⊎_elim (outputs_have blank) (resources_have blank)
          (in_append (flat_map (output_blanks m a) (enumerate_from 0 x.references)) (flat_map (resource_blanks m a) (enumerate_from 0 (claims_of (type_of m x.action)))) blank more))
          (in_append (map (OfAct a) (places (act_fields (type_of m x.action))))
          (flat_map (output_blanks m a) (enumerate_from 0 x.references) ++ flat_map (resource_blanks m a) (enumerate_from 0 (claims_of (type_of m x.action)))) blank has)

    acts_have : HaveOptions m acts (flat_map (act_blanks m) (enumerate_from 0 acts))
    acts_have blank has =
        let found = in_flat_map (act_blanks m) (enumerate_from 0 acts) blank has in
        act_has found.0.0 found.0.1 (in_numbered acts found.0 found.1) blank found.2

    values_have : HaveOptions m acts (value_blanks m acts)
    values_have blank has =
        ⊎_elim (firsts_have blank) (acts_have blank)
        (in_append (flat_map (first_blanks m) (used_state_pools m acts)) (flat_map (act_blanks m) (enumerate_from 0 acts)) blank has)

pub claims_options : (m : ModelTree) → IsSound m → (s : Scenario) → AreFresh m s → HaveOptions m s.actions (claim_blanks m s.actions)
claims_options m sound s fresh = claims_have m sound s.actions fresh

pub values_options : (m : ModelTree) → IsSound m → (s : Scenario) → AreFresh m s → HaveOptions m s.actions (value_blanks m s.actions)
values_options m sound s fresh = values_have m sound s.actions fresh
