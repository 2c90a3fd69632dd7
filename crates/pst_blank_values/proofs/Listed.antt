-- In the list of all blanks of a scenario each blank is in turn.
use Rattle.std.proofs.Common.{◌≡◌, ℕ, zero, suc, ◌+◌, ◌≤◌, List, [], ◌∷◌, ◌++◌, length, map, Bool, true, false, ◌&&◌, cond, if◌then◌else◌, Some, refl, sym, ap, ◌∙◌, subst, ⊎_elim, arith}
use Rattle.std.specs.Prelude.{slice_get, flat_map}
use Rattle.std.specs.List.{enumerate_from, filter, list_any, range_with_len}
use Rattle.std.specs.Option.{option_and_then}
use Rattle.std.proofs.lemmas.Option.{none-some, same_Some, slice_get_within}
use Rattle.pst_model.specs.declared.action.Claim.{Claim}
use Rattle.pst_model.specs.ModelTree.{ModelTree}
use Rattle.pst_scen.specs.declared.act.Act.{Act}
use Rattle.pst_scen.specs.declared.act.Filled.{Filled}
use Rattle.pst_legal.specs.Types.{type_of, pool_object, is_state_pool, is_output}
use Rattle.pst_legal.specs.Blanks.{Blank, Instance, OfFirst, OfAct, OfOutput, OfClaim, places, fields_of, claims_of, act_fields, instance_blanks, claim_blanks, refers_to, used_state_pools, first_blanks, output_blanks, resource_blanks, act_blanks, value_blanks}
use Rattle.pst_built.proofs.Members.{In, in_append, in_map, in_flat_map, in_if, in_numbered}
use Rattle.pst_blank_values.specs.Rows.{Claims, Fields, Output, Resource, Row, InFirst, InAct, row_of}
use Rattle.pst_blank_values.proofs.Counts.{kind, first, second, same_row, same_itself, AreOne, are_one, one_if, count, count_join, count_none}
use Rattle.pst_blank_values.proofs.Turns.{AreInTurn, turns_join, in_range, Rises, in_lists}

rises_numbered : {A : Type 0} (k : ℕ) (xs : List A) → Rises (λ (e : ℕ × A). e.0) k (enumerate_from k xs)
rises_numbered k [] = tt
rises_numbered k (x ∷ xs) = (omega arith, rises_numbered (k + 1) xs)

rises_less : (low other : ℕ) (xs : List ℕ) → other ≤ low → Rises (λ n. n) low xs → Rises (λ n. n) other xs
rises_less low other [] l rises = tt
rises_less low other (x ∷ xs) l rises = (let r = rises.0 in omega (arith, l, r), rises.1)

rises_filtered : (test : ℕ → Bool) (a n : ℕ) → Rises (λ n. n) a (filter test (range_with_len a n))
rises_filtered test a zero = tt
rises_filtered test a (suc n) = by (test a) (rises_filtered test (a + 1) n)
  where
    by : (b : Bool) → Rises (λ n. n) (a + 1) (filter test (range_with_len (a + 1) n)) → Rises (λ n. n) a (cond b (a ∷ filter test (range_with_len (a + 1) n)) (filter test (range_with_len (a + 1) n)))
    by true rises = (omega arith, rises)
    by false rises = rises_less (a + 1) a (filter test (range_with_len (a + 1) n)) (omega arith) rises

-- no blank made from numbers is of a row of another kind
none_of_kind : (blank : ℕ → Blank) (ns : List ℕ) (row : Row) → ((i : ℕ) → AreOne (row_of (blank i)) row → ⊥) → count row (map blank ns) ≡ 0
none_of_kind blank ns row other =
    count_none row (map blank ns) (λ b has one. let n = in_map blank ns b has in other n.0 (are_one (row_of (blank n.0)) row (ap (λ c. same_row (row_of c) row) n.2 ∙ one)))

module _ (m : ModelTree) (acts : List Act) where
  -- ---- claims

  abbrev OfClaims : ℕ → Row → Type 0
  OfClaims j row = (kind row ≡ 1) × (first row ≡ j)

  claims_turn : AreInTurn m acts [] (claim_blanks m acts)
  claims_turn =
      in_lists m acts (λ (e : ℕ × Act). e.0) (instance_blanks m) OfClaims
      (λ e b has. let n = in_map (Instance e.0) (places (claims_of (type_of m e.1.action))) b has in subst (λ c. OfClaims e.0 (row_of c)) n.2 (refl, refl))
      (λ j k x y one other same. let a = one.1 in let b = other.1 in let s = same.firsts in omega (arith, a, b, s))
      (λ done. Unit {0}) (λ done more good. tt)
      0 (enumerate_from 0 acts) [] (rises_numbered 0 acts) (λ j row l of. refl) tt
      (λ e done has none good.
      in_range m acts (Instance e.0) (InAct e.0 Claims) (λ i. refl) (λ i. refl) 0 (length (claims_of (type_of m e.1.action))) done (none (InAct e.0 Claims) (refl, refl))
      (λ i more low high. (e.1, in_numbered acts e has)))

  -- so many claims of each action
  abbrev HaveClaims : List Blank → Type 0
  HaveClaims done = (a : ℕ) (x : Act) → slice_get acts a ≡ Some x → length (claims_of (type_of m x.action)) ≤ count (InAct a Claims) done

  claims_stay : (done more : List Blank) → HaveClaims done → HaveClaims (done ++ more)
  claims_stay done more have a x is = let h = have a x is in let e = count_join (InAct a Claims) done more in omega (arith, h, e)

  counted_range : (k start n : ℕ) → count (InAct k Claims) (map (Instance k) (range_with_len start n)) ≡ n
  counted_range k start zero = refl
  counted_range k start (suc n) =
      let here : one_if (same_row (InAct k Claims) (InAct k Claims)) ≡ 1 = ap one_if (same_itself (InAct k Claims)) in
      let more = counted_range k (start + 1) n in
      omega (arith, here, more)

  counted : (k : ℕ) (xs : List Act) (a : ℕ) (x : Act) → slice_get xs a ≡ Some x → length (claims_of (type_of m x.action)) ≤ count (InAct (k + a) Claims) (flat_map (instance_blanks m) (enumerate_from k xs))
  counted k [] a x is = absurd (none-some x is)
  counted k (y ∷ ys) zero x is =
      let here : k ≡ k + zero = omega arith in
      let own : count (InAct (k + zero) Claims) (instance_blanks m (k, y)) ≡ length (claims_of (type_of m y.action)) = subst (λ n. count (InAct n Claims) (instance_blanks m (k, y)) ≡ length (claims_of (type_of m y.action))) here (counted_range k 0 (length (claims_of (type_of m y.action)))) in
      let same : length (claims_of (type_of m y.action)) ≡ length (claims_of (type_of m x.action)) = ap (λ (z : Act). length (claims_of (type_of m z.action))) (same_Some y x is) in
      let sum = count_join (InAct (k + zero) Claims) (instance_blanks m (k, y)) (flat_map (instance_blanks m) (enumerate_from (k + 1) ys)) in
      omega (arith, own, same, sum)
  counted k (y ∷ ys) (suc a) x is =
      let here : (k + 1) + a ≡ k + suc a = omega arith in
      let more : length (claims_of (type_of m x.action)) ≤ count (InAct (k + suc a) Claims) (flat_map (instance_blanks m) (enumerate_from (k + 1) ys)) =
      subst (λ n. length (claims_of (type_of m x.action)) ≤ count (InAct n Claims) (flat_map (instance_blanks m) (enumerate_from (k + 1) ys))) here (counted (k + 1) ys a x is) in
      let sum = count_join (InAct (k + suc a) Claims) (instance_blanks m (k, y)) (flat_map (instance_blanks m) (enumerate_from (k + 1) ys)) in
      omega (arith, more, sum)

  have_claims : HaveClaims (claim_blanks m acts)
  have_claims a x is = let e : 0 + a ≡ a = omega arith in subst (λ n. length (claims_of (type_of m x.action)) ≤ count (InAct n Claims) (claim_blanks m acts)) e (counted 0 acts a x is)

  -- ---- first objects

  abbrev OfFirsts : ℕ → Row → Type 0
  OfFirsts j row = (kind row ≡ 0) × (first row ≡ j)

  abbrev pools : List ℕ
  pools = used_state_pools m acts

  -- no claim is of a row of a kind that isn't the claims'
  claims_of_none : (row : Row) → (kind row ≡ 1 → ⊥) → count row (claim_blanks m acts) ≡ 0
  claims_of_none row other =
      count_none row (claim_blanks m acts)
      (λ b has one.
      let e = in_flat_map (instance_blanks m) (enumerate_from 0 acts) b has in
      let n = in_map (Instance e.0.0) (places (claims_of (type_of m e.0.1.action))) b e.2 in
      let same = are_one (row_of (Instance e.0.0 n.0)) row (ap (λ c. same_row (row_of c) row) n.2 ∙ one) in
      other (sym same.kinds))

  firsts_turn : AreInTurn m acts (claim_blanks m acts) (flat_map (first_blanks m) pools)
  firsts_turn =
      in_lists m acts (λ (p : ℕ). p) (first_blanks m) OfFirsts
      (λ p b has. let n = in_map (OfFirst p) (places (fields_of (pool_object m p))) b has in subst (λ c. OfFirsts p (row_of c)) n.2 (refl, refl))
      (λ j k x y one other same. let a = one.1 in let b = other.1 in let s = same.firsts in omega (arith, a, b, s))
      (λ done. Unit {0}) (λ done more good. tt)
      0 pools (claim_blanks m acts) (rises_filtered (λ pool. is_state_pool m pool && list_any (refers_to pool) acts) 0 (length m.pools))
      (λ j row l of. claims_of_none row (λ k. let z = of.0 in omega (arith, k, z))) tt
      (λ p done has none good.
      in_range m acts (OfFirst p) (InFirst p) (λ i. refl) (λ i. refl) 0 (length (fields_of (pool_object m p))) done (none (InFirst p) (refl, refl)) (λ i more low high. has))

  firsts_of_none : (row : Row) → (kind row ≡ 0 → ⊥) → count row (flat_map (first_blanks m) pools) ≡ 0
  firsts_of_none row other =
      count_none row (flat_map (first_blanks m) pools)
      (λ b has one.
      let p = in_flat_map (first_blanks m) pools b has in
      let n = in_map (OfFirst p.0) (places (fields_of (pool_object m p.0))) b p.2 in
      let same = are_one (row_of (OfFirst p.0 n.0)) row (ap (λ c. same_row (row_of c) row) n.2 ∙ one) in
      other (sym same.kinds))

  -- ---- actions

  abbrev OfActs : ℕ → Row → Type 0
  OfActs j row = (2 ≤ kind row) × (first row ≡ j)

  module _ (a : ℕ) (x : Act) where
    abbrev own_blanks : List Blank
    own_blanks = map (OfAct a) (places (act_fields (type_of m x.action)))

    abbrev outputs : List Blank
    outputs = flat_map (output_blanks m a) (enumerate_from 0 x.references)

    abbrev resources : List Blank
    resources = flat_map (resource_blanks m a) (enumerate_from 0 (claims_of (type_of m x.action)))

    abbrev OfOutputs : ℕ → Row → Type 0
    OfOutputs j row = (kind row ≡ 3) × (first row ≡ a) × (second row ≡ j)

    abbrev OfResources : ℕ → Row → Type 0
    OfResources j row = (kind row ≡ 4) × (first row ≡ a) × (second row ≡ j)

    output_row : (e : ℕ × Filled) (b : Blank) → In b (output_blanks m a e) → OfOutputs e.0 (row_of b)
    output_row e b has =
        let inside = in_if (is_output e.1.flow) (map (OfOutput a e.0) (places (fields_of (pool_object m e.1.pool)))) b has in
        let n = in_map (OfOutput a e.0) (places (fields_of (pool_object m e.1.pool))) b inside.1 in
        subst (λ c. OfOutputs e.0 (row_of c)) n.2 (refl, refl, refl)

    resource_row : (e : ℕ × Claim) (b : Blank) → In b (resource_blanks m a e) → OfResources e.0 (row_of b)
    resource_row e b has =
        let n = in_map (OfClaim a e.0) (places (fields_of (slice_get m.objects e.1.object))) b has in
        subst (λ c. OfResources e.0 (row_of c)) n.2 (refl, refl, refl)

    own_row : (b : Blank) → In b own_blanks → (kind (row_of b) ≡ 2) × (first (row_of b) ≡ a)
    own_row b has = let n = in_map (OfAct a) (places (act_fields (type_of m x.action))) b has in subst (λ c. (kind (row_of c) ≡ 2) × (first (row_of c) ≡ a)) n.2 (refl, refl)

    own_of_none : (row : Row) → (kind row ≡ 2 → ⊥) → count row own_blanks ≡ 0
    own_of_none row other = count_none row own_blanks (λ b has one. let k = own_row b has in let same = are_one (row_of b) row one in other (sym same.kinds ∙ k.0))

    outputs_of_none : (row : Row) → (kind row ≡ 3 → ⊥) → count row outputs ≡ 0
    outputs_of_none row other =
        count_none row outputs
        (λ b has one.
        let e = in_flat_map (output_blanks m a) (enumerate_from 0 x.references) b has in
        let k = output_row e.0 b e.2 in
        let same = are_one (row_of b) row one in
        other (sym same.kinds ∙ k.0))

    act_rows : (b : Blank) → In b (act_blanks m (a, x)) → OfActs a (row_of b)
    act_rows b has =
        ⊎_elim (λ own. let k = own_row b own in (let e = k.0 in omega (arith, e), k.1))
        (λ more. ⊎_elim
        (λ out. let e = in_flat_map (output_blanks m a) (enumerate_from 0 x.references) b out in let k = output_row e.0 b e.2 in (let z = k.0 in omega (arith, z), k.1))
        (λ res. let e = in_flat_map (resource_blanks m a) (enumerate_from 0 (claims_of (type_of m x.action))) b res in let k = resource_row e.0 b e.2 in (let z = k.0 in omega (arith, z), k.1))
        (in_append outputs resources b more))
        (in_append own_blanks (outputs ++ resources) b has)

    module _ (is : slice_get acts a ≡ Some x) where
      own_turn : (done : List Blank) → ((row : Row) → OfActs a row → count row done ≡ 0) → AreInTurn m acts done own_blanks
      own_turn done none =
          in_range m acts (OfAct a) (InAct a Fields) (λ i. refl) (λ i. refl) 0 (length (act_fields (type_of m x.action))) done (none (InAct a Fields) (omega arith, refl)) (λ i more low high. (x, is))

      output_turn : (e : ℕ × Filled) (done : List Blank) → In e (enumerate_from 0 x.references) → ((row : Row) → OfOutputs e.0 row → count row done ≡ 0) → AreInTurn m acts done (output_blanks m a e)
      output_turn e done has none = by (is_output e.1.flow)
        where
          by : (b : Bool) → AreInTurn m acts done (if b then map (OfOutput a e.0) (places (fields_of (pool_object m e.1.pool))) else [])
          by true =
              in_range m acts (OfOutput a e.0) (InAct a (Output e.0)) (λ i. refl) (λ i. refl) 0 (length (fields_of (pool_object m e.1.pool))) done (none (InAct a (Output e.0)) (refl, refl, refl))
              (λ i more low high. (e.1, ap (option_and_then (λ (y : Act). slice_get y.references e.0)) is ∙ in_numbered x.references e has))
          by false = tt

      outputs_turn : (done : List Blank) → ((row : Row) → OfActs a row → count row done ≡ 0) → AreInTurn m acts (done ++ own_blanks) outputs
      outputs_turn done none =
          in_lists m acts (λ (e : ℕ × Filled). e.0) (output_blanks m a) OfOutputs output_row
          (λ j k x y one other same. let p = one.2 in let q = other.2 in let s = same.seconds in omega (arith, p, q, s))
          (λ d. Unit {0}) (λ d more good. tt)
          0 (enumerate_from 0 x.references) (done ++ own_blanks) (rises_numbered 0 x.references)
          (λ j row l of.
          let k = of.0 in
          let old = none row (omega (arith, k), of.1) in
          let own = own_of_none row (λ two. omega (arith, two, k)) in
          let sum = count_join row done own_blanks in
          omega (arith, old, own, sum))
          tt (λ e d has empty good. output_turn e d has empty)

      abbrev HasClaims : List Blank → Type 0
      HasClaims done = length (claims_of (type_of m x.action)) ≤ count (InAct a Claims) done

      has_stays : (done more : List Blank) → HasClaims done → HasClaims (done ++ more)
      has_stays done more has = let e = count_join (InAct a Claims) done more in omega (arith, has, e)

      resource_turn : (e : ℕ × Claim) (done : List Blank) → In e (enumerate_from 0 (claims_of (type_of m x.action))) → ((row : Row) → OfResources e.0 row → count row done ≡ 0) → HasClaims done
          → AreInTurn m acts done (resource_blanks m a e)
      resource_turn e done has none good =
          in_range m acts (OfClaim a e.0) (InAct a (Resource e.0)) (λ i. refl) (λ i. refl) 0 (length (fields_of (slice_get m.objects e.1.object))) done (none (InAct a (Resource e.0)) (refl, refl, refl))
          (λ i more low high.
          let within = slice_get_within (claims_of (type_of m x.action)) e.0 e.1 (in_numbered (claims_of (type_of m x.action)) e has) in
          let long = has_stays done more good in
          (x, is, omega (arith, within, long)))

      resources_turn : (done : List Blank) → ((row : Row) → OfActs a row → count row done ≡ 0) → HasClaims done → AreInTurn m acts ((done ++ own_blanks) ++ outputs) resources
      resources_turn done none has =
          in_lists m acts (λ (e : ℕ × Claim). e.0) (resource_blanks m a) OfResources resource_row
          (λ j k x y one other same. let p = one.2 in let q = other.2 in let s = same.seconds in omega (arith, p, q, s))
          HasClaims has_stays
          0 (enumerate_from 0 (claims_of (type_of m x.action))) ((done ++ own_blanks) ++ outputs) (rises_numbered 0 (claims_of (type_of m x.action)))
          (λ j row l of.
          let k = of.0 in
          let old = none row (omega (arith, k), of.1) in
          let own = own_of_none row (λ two. omega (arith, two, k)) in
          let out = outputs_of_none row (λ three. omega (arith, three, k)) in
          let sum = count_join row done own_blanks in
          let all = count_join row (done ++ own_blanks) outputs in
          omega (arith, old, own, out, sum, all))
          (has_stays (done ++ own_blanks) outputs (has_stays done own_blanks has))
          (λ e d inside empty good. resource_turn e d inside empty good)

      act_turn : (done : List Blank) → ((row : Row) → OfActs a row → count row done ≡ 0) → HasClaims done → AreInTurn m acts done (act_blanks m (a, x))
      act_turn done none has =
          turns_join m acts done own_blanks (outputs ++ resources) (own_turn done none)
          (turns_join m acts (done ++ own_blanks) outputs resources (outputs_turn done none) (resources_turn done none has))

  acts_turn : (done : List Blank) → ((j : ℕ) (row : Row) → OfActs j row → count row done ≡ 0) → HaveClaims done → AreInTurn m acts done (flat_map (act_blanks m) (enumerate_from 0 acts))
  acts_turn done none have =
      in_lists m acts (λ (e : ℕ × Act). e.0) (act_blanks m) OfActs (λ e b has. act_rows e.0 e.1 b has)
      (λ j k x y one other same. let a = one.1 in let b = other.1 in let s = same.firsts in omega (arith, a, b, s))
      HaveClaims claims_stay
      0 (enumerate_from 0 acts) done (rises_numbered 0 acts) (λ j row l of. none j row of) have
      (λ e d has empty good. let is = in_numbered acts e has in act_turn e.0 e.1 is d empty (good e.0 e.1 is))

  pub all_turn : AreInTurn m acts [] (claim_blanks m acts ++ value_blanks m acts)
  all_turn =
      let firsts = flat_map (first_blanks m) pools in
      let claims = claim_blanks m acts in
      turns_join m acts [] claims (value_blanks m acts) claims_turn
      (turns_join m acts claims firsts (flat_map (act_blanks m) (enumerate_from 0 acts)) firsts_turn
      (acts_turn (claims ++ firsts)
      (λ j row of.
      let k = of.0 in
      let one = claims_of_none row (λ e. omega (arith, e, k)) in
      let two = firsts_of_none row (λ e. omega (arith, e, k)) in
      let sum = count_join row claims firsts in
      omega (arith, one, two, sum))
      (claims_stay claims firsts have_claims)))
