-- The list of places is that of all blanks, each where its place says.
use Rattle.std.proofs.Common.{◌≡◌, ℕ, ◌+◌, List, [], ◌∷◌, ◌++◌, map, length, Bool, true, false, if◌then◌else◌, Option, Some, None, refl, sym, ap, ap₂, ◌∙◌, arith}
use Rattle.std.specs.Prelude.{slice_get, flat_map}
use Rattle.std.specs.List.{enumerate_from, range_with_len}
use Rattle.std.specs.Option.{option_and_then}
use Rattle.pst_model.specs.declared.action.Field.{Field}
use Rattle.pst_model.specs.declared.action.Claim.{Claim}
use Rattle.pst_model.specs.Served.{pool_in}
use Rattle.pst_model.specs.ModelTree.{ModelTree, ActionTree}
use Rattle.pst_scen.specs.declared.act.Act.{Act}
use Rattle.pst_scen.specs.declared.act.Filled.{Filled}
use Rattle.pst_scen.specs.declared.scenario.Scenario.{Scenario}
use Rattle.pst_legal.specs.Types.{type_of, served, pool_object, is_output, served_claim}
use Rattle.pst_legal.specs.Blanks.{Blank as Read, Instance, OfFirst, OfAct, OfOutput, OfClaim, places, fields_of, claims_of, act_fields, instance_blanks, first_blanks, output_blanks, resource_blanks, act_blanks, used_state_pools}
use Rattle.pst_legal.specs.ValueReading.{with_firsts}
use Rattle.pst_blanks.specs.declared.blank.Blank.{Blank}
use Rattle.pst_blanks.specs.declared.blank.Blank.TheVariants as blank
use Rattle.pst_blanks.specs.declared.blank.Place.{Place}
use Rattle.pst_blanks.specs.Blanks.{read_blank, blank_of, all_blanks, with_field, field_places, claims_from, reference_count, act_claims, first_places, output_places, resource_places, act_places, listed}
use Rattle.pst_blanks.specs.Placed.{IsPlaced, ArePlaced, pools_of}
use Rattle.pst_blanks.proofs.Each.{Each, each_any, each_join, each_map, each_flat, each_numbered, each_at, map_join, map_flat, map_map}
use Rattle.pst_blanks.proofs.Firsts.{empty_pools}

-- ---- which they are

fields_are : (b : Blank) (at : Option ℕ) (f : ℕ → Read) (fields : List Field) → ((n : ℕ) → read_blank (with_field b n) ≡ f n) → map blank_of (field_places b at fields) ≡ map f (places fields)
fields_are b at f fields same = map_map blank_of (λ n. record { blank = with_field b n; at = at }) f (places fields) same

module _ (m : ModelTree) where
  claims_are : (e : ℕ × Act) → map blank_of (act_claims m e) ≡ instance_blanks m e
  claims_are e = map_map blank_of (λ n. record { blank = blank.Instance e.0 n; at = pool_in m.served e.1.action e.1.instance (reference_count (type_of m e.1.action) + n) }) (Instance e.0) (places (claims_of (type_of m e.1.action))) (λ n. refl)

  firsts_are : (k : ℕ) (pools : List ℕ) → map blank_of (flat_map (first_places m) (enumerate_from k pools)) ≡ flat_map (first_blanks m) pools
  firsts_are k [] = refl
  firsts_are k (pool ∷ pools) =
      map_join blank_of (first_places m (k, pool)) (flat_map (first_places m) (enumerate_from (k + 1) pools))
      ∙ ap (λ l. l ++ map blank_of (flat_map (first_places m) (enumerate_from (k + 1) pools))) (fields_are (blank.OfFirst pool 0) (Some k) (OfFirst pool) (fields_of (pool_object m pool)) (λ n. refl))
      ∙ ap (λ l. first_blanks m pool ++ l) (firsts_are (k + 1) pools)

  output_is : (a : ℕ) (e : ℕ × Filled) → map blank_of (output_places m a e) ≡ output_blanks m a e
  output_is a e = go (is_output e.1.flow)
    where
      go : (b : Bool) → map blank_of (if b then field_places (blank.OfOutput a e.0 0) None (fields_of (pool_object m e.1.pool)) else []) ≡ (if b then map (OfOutput a e.0) (places (fields_of (pool_object m e.1.pool))) else [])
      go true = fields_are (blank.OfOutput a e.0 0) None (OfOutput a e.0) (fields_of (pool_object m e.1.pool)) (λ n. refl)
      go false = refl

  resource_is : (a : ℕ) (e : ℕ × Claim) → map blank_of (resource_places m a e) ≡ resource_blanks m a e
  resource_is a e = fields_are (blank.OfClaim a e.0 0) None (OfClaim a e.0) (fields_of (slice_get m.objects e.1.object)) (λ n. refl)

  act_is : (e : ℕ × Act) → map blank_of (act_places m e) ≡ act_blanks m e
  act_is e =
      let claims = claims_of (type_of m e.1.action) in
      let outputs = flat_map (output_places m e.0) (enumerate_from 0 e.1.references) in
      let resources = flat_map (resource_places m e.0) (enumerate_from 0 claims) in
      map_join blank_of (field_places (blank.OfAct e.0 0) None (act_fields (type_of m e.1.action))) (outputs ++ resources)
      ∙ ap₂ (λ (l r : List Read). l ++ r) (fields_are (blank.OfAct e.0 0) None (OfAct e.0) (act_fields (type_of m e.1.action)) (λ n. refl))
      (map_join blank_of outputs resources
      ∙ ap₂ (λ (l r : List Read). l ++ r) (map_flat blank_of (output_places m e.0) (output_blanks m e.0) (enumerate_from 0 e.1.references) (output_is e.0))
      (map_flat blank_of (resource_places m e.0) (resource_blanks m e.0) (enumerate_from 0 claims) (resource_is e.0)))

  pub blanks_listed : (acts : List Act) → map blank_of (listed m acts) ≡ all_blanks m acts
  blanks_listed acts =
      let claims = flat_map (act_claims m) (enumerate_from 0 acts) in
      let firsts = flat_map (first_places m) (enumerate_from 0 (used_state_pools m acts)) in
      let values = flat_map (act_places m) (enumerate_from 0 acts) in
      map_join blank_of claims (firsts ++ values)
      ∙ ap₂ (λ (l r : List Read). l ++ r) (map_flat blank_of (act_claims m) (instance_blanks m) (enumerate_from 0 acts) claims_are)
      (map_join blank_of firsts values
      ∙ ap₂ (λ (l r : List Read). l ++ r) (firsts_are 0 (used_state_pools m acts)) (map_flat blank_of (act_places m) (act_blanks m) (enumerate_from 0 acts) act_is))

  -- ---- where they are

  module _ (s : Scenario) where
    abbrev P : Place → Type 0
    P place = IsPlaced m s place

    claim_placed : (a : ℕ) (x : Act) (o : Option ActionTree) → slice_get s.actions a ≡ Some x → type_of m x.action ≡ o → Each P (claims_from m.served a x.action x.instance (reference_count o) 0 (claims_of o))
    claim_placed a x None is typed = tt
    claim_placed a x (Some t) is typed =
        each_map P (λ n. record { blank = blank.Instance a n; at = pool_in m.served x.action x.instance (length t.references + n) }) (range_with_len 0 (length t.claims))
        (each_any (λ n. P (record { blank = blank.Instance a n; at = pool_in m.served x.action x.instance (length t.references + n) })) (range_with_len 0 (length t.claims)) (λ n. (
          sym (ap (λ o. option_and_then (λ y. served_claim m y.action y.instance n) o) is ∙ ap (λ o. option_and_then (λ (type : ActionTree). served m x.action x.instance (length type.references + n)) o) typed),
          tt,
        )))

    claims_placed : Each P (flat_map (act_claims m) (enumerate_from 0 s.actions))
    claims_placed =
        each_flat P (act_claims m) (enumerate_from 0 s.actions)
        (each_numbered (λ e. Each P (act_claims m e)) 0 s.actions (λ i x is. let zero_more : 0 + i ≡ i = omega arith in
        claim_placed (0 + i) x (type_of m x.action) (ap (slice_get s.actions) zero_more ∙ is) refl))

    first_placed : (k pool : ℕ) → slice_get (pools_of s.firsts) k ≡ Some pool → Each P (first_places m (k, pool))
    first_placed k pool is =
        each_map P (λ n. record { blank = blank.OfFirst pool n; at = Some k }) (places (fields_of (pool_object m pool)))
        (each_any (λ n. P (record { blank = blank.OfFirst pool n; at = Some k })) (places (fields_of (pool_object m pool))) (λ n. (tt, (k, refl, is))))

    firsts_placed : (pools : List ℕ) → pools_of s.firsts ≡ pools → Each P (flat_map (first_places m) (enumerate_from 0 pools))
    firsts_placed pools same =
        each_flat P (first_places m) (enumerate_from 0 pools)
        (each_numbered (λ e. Each P (first_places m e)) 0 pools (λ i x is. let zero_more : 0 + i ≡ i = omega arith in
        first_placed (0 + i) x (ap (λ l. slice_get l (0 + i)) same ∙ ap (slice_get pools) zero_more ∙ is)))

    output_placed : (a : ℕ) (e : ℕ × Filled) → Each P (output_places m a e)
    output_placed a e = go (is_output e.1.flow)
      where
        go : (b : Bool) → Each P (if b then field_places (blank.OfOutput a e.0 0) None (fields_of (pool_object m e.1.pool)) else [])
        go true = each_map P (λ n. record { blank = blank.OfOutput a e.0 n; at = None }) (places (fields_of (pool_object m e.1.pool))) (each_any (λ n. P (record { blank = blank.OfOutput a e.0 n; at = None })) (places (fields_of (pool_object m e.1.pool))) (λ n. (tt, tt)))
        go false = tt

    resource_placed : (a : ℕ) (e : ℕ × Claim) → Each P (resource_places m a e)
    resource_placed a e =
        let fields = fields_of (slice_get m.objects e.1.object) in
        each_map P (λ n. record { blank = blank.OfClaim a e.0 n; at = None }) (places fields) (each_any (λ n. P (record { blank = blank.OfClaim a e.0 n; at = None })) (places fields) (λ n. (tt, tt)))

    act_placed : (e : ℕ × Act) → Each P (act_places m e)
    act_placed e =
        let fields = act_fields (type_of m e.1.action) in
        let claims = claims_of (type_of m e.1.action) in
        each_join P (field_places (blank.OfAct e.0 0) None fields) _
        (each_map P (λ n. record { blank = blank.OfAct e.0 n; at = None }) (places fields) (each_any (λ n. P (record { blank = blank.OfAct e.0 n; at = None })) (places fields) (λ n. (tt, tt))))
        (each_join P (flat_map (output_places m e.0) (enumerate_from 0 e.1.references)) _
        (each_flat P (output_places m e.0) (enumerate_from 0 e.1.references) (each_any (λ x. Each P (output_places m e.0 x)) (enumerate_from 0 e.1.references) (output_placed e.0)))
        (each_flat P (resource_places m e.0) (enumerate_from 0 claims) (each_any (λ x. Each P (resource_places m e.0 x)) (enumerate_from 0 claims) (resource_placed e.0))))

    all_placed : pools_of s.firsts ≡ used_state_pools m s.actions → Each P (listed m s.actions)
    all_placed same =
        each_join P (flat_map (act_claims m) (enumerate_from 0 s.actions)) _ claims_placed
        (each_join P (flat_map (first_places m) (enumerate_from 0 (used_state_pools m s.actions))) _ (firsts_placed (used_state_pools m s.actions) same)
        (each_flat P (act_places m) (enumerate_from 0 s.actions) (each_any (λ e. Each P (act_places m e)) (enumerate_from 0 s.actions) act_placed)))

  pub placed_listed : (s : Scenario) → ArePlaced m (with_firsts m s) (listed m s.actions)
  placed_listed s n place is = each_at (IsPlaced m (with_firsts m s)) (listed m s.actions) n place (all_placed (with_firsts m s) (empty_pools (used_state_pools m s.actions))) is
