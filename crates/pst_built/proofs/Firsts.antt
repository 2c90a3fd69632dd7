-- The first objects of a scenario with values are those of the state pools that its actions use.
use Rattle.std.proofs.Common.{◌≡◌, ◌⊎◌, ℕ, zero, suc, ◌+◌, ◌<◌, ◌≤◌, List, [], ◌∷◌, length, cond, Bool, true, false, nat_eq, ◌&&◌, get_or, AllPairs, Contains, Option, Some, None, refl, sym, ap, ◌∙◌, subst, inl, inr, ⊎_elim, arith}
use Rattle.std.specs.Prelude.{slice_get}
use Rattle.std.specs.List.{filter, list_any, range_with_len}
use Rattle.std.specs.Option.{option_and_then}
use Rattle.std.proofs.lemmas.Option.{slice_get_within, option_and_then_some}
use Rattle.std.proofs.lemmas.Bool.{false≢true, eqb-true, eq-eqb, and_parts, and_from, cases_order}
use Rattle.pst_model.specs.declared.model.Pool.{Pool}
use Rattle.pst_model.specs.ModelTree.{ModelTree}
use Rattle.pst_model.specs.declared.object.ObjectKind.TheVariants.{State}
use Rattle.pst_scen.specs.declared.act.Filled.{Filled}
use Rattle.pst_scen.specs.declared.act.Flow.{Flow}
use Rattle.pst_scen.specs.declared.act.Flow.TheVariants.{BufferIn, BufferOut, StreamIn, StreamOut, StateIn, StateOut}
use Rattle.pst_scen.specs.declared.act.Link.{Link}
use Rattle.pst_scen.specs.declared.scenario.Scenario.{Scenario}
use Rattle.pst_scen.specs.Flows.{Refers}
use Rattle.pst_scen.specs.Conflicts.{Uses}
use Rattle.pst_scen.specs.Scenarios.{reference_at, HasFirsts}
use Rattle.pst_legal.specs.Types.{is_state_pool, has_kind}
use Rattle.pst_legal.specs.SupplyReading.{is_state}
use Rattle.pst_legal.specs.Blanks.{refers_to, used_state_pools}
use Rattle.pst_built.proofs.Bares.{Bare, bare, bares, bare_at, bare_from, bare_of}
use Rattle.pst_built.proofs.Members.{In, in_get, in_filter, any_found, any_from, to_filter, to_contains, from_contains}
use Rattle.pst_built.proofs.Spots.{at_act}
use Rattle.pst_built.proofs.Values.{IsValued}
use Rattle.pst_built.proofs.SoundActs.{in_place, ArePooled}

-- ---- numbers in order

to_range : (a n k : ℕ) → a ≤ k → k < a + n → In k (range_with_len a n)
to_range a zero k low high = absurd (omega (arith, low, high))
to_range a (suc n) k low high =
    ⊎_elim (λ e. inl e)
    (λ o. ⊎_elim (λ l. inr (to_range (a + 1) n k (omega (arith, l)) (omega (arith, high)))) (λ l. absurd (omega (arith, l, low))) o) (cases_order a k)

-- ---- ascending numbers

-- each is greater than the one before it, and the first no less than that
abbrev Rising : ℕ → List ℕ → Type 0
Rising low [] = Unit {0}
Rising low (x ∷ xs) = (low ≤ x) × Rising (x + 1) xs

rising_from : (low other : ℕ) (xs : List ℕ) → other ≤ low → Rising low xs → Rising other xs
rising_from low other [] l rising = tt
rising_from low other (x ∷ xs) l rising = (omega (arith, l, rising.0), rising.1)

rising_cond : (b : Bool) (a : ℕ) (xs : List ℕ) → Rising (a + 1) xs → Rising a (cond b (a ∷ xs) xs)
rising_cond true a xs rising = (omega arith, rising)
rising_cond false a xs rising = rising_from (a + 1) a xs (omega arith) rising

rising_range : (test : ℕ → Bool) (a n : ℕ) → Rising a (filter test (range_with_len a n))
rising_range test a zero = tt
rising_range test a (suc n) = rising_cond (test a) a (filter test (range_with_len (a + 1) n)) (rising_range test (a + 1) n)

rising_least : (low : ℕ) (xs : List ℕ) (i d : ℕ) → Rising low xs → i < length xs → low ≤ get_or xs i d
rising_least low [] i d rising l = absurd (omega (arith, l))
rising_least low (x ∷ xs) zero d rising l = rising.0
rising_least low (x ∷ xs) (suc i) d rising l = let p = rising_least (x + 1) xs i d rising.1 (omega (arith, l)) in omega (arith, p, rising.0)

rising_pairs : (low : ℕ) (xs : List ℕ) → Rising low xs → (i j d : ℕ) → i < j → j < length xs → get_or xs i d < get_or xs j d
rising_pairs low [] rising i j d l m = absurd (omega (arith, m))
rising_pairs low (x ∷ xs) rising i zero d l m = absurd (omega (arith, l))
rising_pairs low (x ∷ xs) rising zero (suc j) d l m = let p = rising_least (x + 1) xs j d rising.1 (omega (arith, m)) in omega (arith, p)
rising_pairs low (x ∷ xs) rising (suc i) (suc j) d l m = rising_pairs (x + 1) xs rising.1 i j d (omega (arith, l)) (omega (arith, m))

-- ---- uses of state pools

state_or : (flow : Flow) → is_state flow ≡ true → (flow ≡ StateIn) ⊎ (flow ≡ StateOut)
state_or StateIn e = inl refl
state_or StateOut e = inr refl
state_or BufferIn e = absurd (false≢true e)
state_or BufferOut e = absurd (false≢true e)
state_or StreamIn e = absurd (false≢true e)
state_or StreamOut e = absurd (false≢true e)

-- the pool is one of the model
by_pool : (m : ModelTree) (pool : Option Pool) → has_kind State (option_and_then (λ p. slice_get m.objects p.object) pool) ≡ true → (p : Pool) × (pool ≡ Some p)
by_pool m None e = absurd (false≢true e)
by_pool m (Some p) e = (p, refl)

pool_within : (m : ModelTree) (pool : ℕ) → is_state_pool m pool ≡ true → pool < length m.pools
pool_within m pool e = let p = by_pool m (slice_get m.pools pool) e in slice_get_within m.pools pool p.0 p.1

refers : (s : Scenario) (a r : ℕ) (flow : Flow) (pool : ℕ) (filled : Filled) → reference_at s.actions a r ≡ Some filled → filled.flow ≡ flow → filled.pool ≡ pool → Refers s a flow pool filled.link
refers s a r flow pool filled is of_flow of_pool =
    option_and_then_some (λ x. slice_get x.references r) (slice_get s.actions a) filled is
    (λ act there has. record { act = act; reference = r; filled = filled; is_act = there; is = has; of_flow = of_flow; of_pool = of_pool; linked = refl })

module _ (m : ModelTree) (s t : Scenario) (valued : IsValued m s t) (pooled : ArePooled m (bares s.actions)) where
  -- an action uses the state pool of its reference
  use_of : (a r pool : ℕ) (x : Bare) → bare_at (bares t.actions) a r ≡ Some x → x.pool ≡ pool → is_state x.flow ≡ true → (b : ℕ) × Uses t b pool
  use_of a r pool x at same state =
      let f = bare_of t.actions a r x at in
      let flow = ap (λ (v : Bare). v.flow) f.2 in
      let of_pool = ap (λ (v : Bare). v.pool) f.2 ∙ same in
      (a, (f.0.link, ⊎_elim (λ e. inl (refers t a r StateIn pool f.0 f.1 (flow ∙ e) of_pool)) (λ e. inr (refers t a r StateOut pool f.0 f.1 (flow ∙ e) of_pool)) (state_or x.flow state)))

  used : (pool : ℕ) → In pool (used_state_pools m s.actions) → (b : ℕ) × Uses t b pool
  used pool has =
      let f = in_filter (λ p. is_state_pool m p && list_any (refers_to p) s.actions) (range_with_len 0 (length m.pools)) pool has in
      let parts = and_parts (is_state_pool m pool) (list_any (refers_to pool) s.actions) f.1 in
      let act = any_found (refers_to pool) s.actions parts.1 in
      let filled = any_found (λ (x : Filled). nat_eq x.pool pool) act.0.references act.2 in
      let a = in_place s.actions act.0 act.1 in
      let r = in_place act.0.references filled.0 filled.1 in
      let at = bare_from s.actions a.0 r.0 filled.0 (at_act s.actions a.0 r.0 act.0 filled.0 a.1 r.1) in
      let same = eqb-true filled.0.pool pool filled.2 in
      let state : is_state filled.0.flow ≡ true = sym (pooled a.0 r.0 (bare filled.0) at) ∙ ap (is_state_pool m) same ∙ parts.0 in
      use_of a.0 r.0 pool (bare filled.0) (ap (λ rows. bare_at rows a.0 r.0) valued.same.references ∙ at) same state

  by_reference : (pool a : ℕ) (flow : Flow) (to : Link) → is_state flow ≡ true → Refers t a flow pool to → In pool (used_state_pools m s.actions)
  by_reference pool a flow to state refers =
      let at = bare_from t.actions a refers.reference refers.filled (at_act t.actions a refers.reference refers.act refers.filled refers.is_act refers.is) in
      let before : bare_at (bares s.actions) a refers.reference ≡ Some (bare refers.filled) = ap (λ rows. bare_at rows a refers.reference) (sym valued.same.references) ∙ at in
      let f = bare_of s.actions a refers.reference (bare refers.filled) before in
      let is : is_state_pool m pool ≡ true = ap (is_state_pool m) (sym refers.of_pool) ∙ pooled a refers.reference (bare refers.filled) before ∙ ap is_state refers.of_flow ∙ state in
      let same : f.0.pool ≡ pool = ap (λ (v : Bare). v.pool) f.2 ∙ refers.of_pool in
      option_and_then_some (λ x. slice_get x.references refers.reference) (slice_get s.actions a) f.0 f.1
      (λ act there has.
      to_filter (λ p. is_state_pool m p && list_any (refers_to p) s.actions) (range_with_len 0 (length m.pools)) pool
      (to_range 0 (length m.pools) pool (omega arith) (omega (arith, pool_within m pool is)))
      (and_from (is_state_pool m pool) (list_any (refers_to pool) s.actions) is
      (any_from (refers_to pool) s.actions act (in_get s.actions a act there)
      (any_from (λ (x : Filled). nat_eq x.pool pool) act.references f.0 (in_get act.references refers.reference f.0 has) (eq-eqb f.0.pool pool same)))))

  uses : (pool : ℕ) → (b : ℕ) × Uses t b pool → In pool (used_state_pools m s.actions)
  uses pool (b, (to, way)) = ⊎_elim (λ reads. by_reference pool b StateIn to refl reads) (λ writes. by_reference pool b StateOut to refl writes) way

  pub has_firsts : HasFirsts t
  has_firsts = record {
    ascending = subst (AllPairs ◌<◌) (sym valued.firsts)
        (λ i j d l n. rising_pairs 0 (used_state_pools m s.actions) (rising_range (λ p. is_state_pool m p && list_any (refers_to p) s.actions) 0 (length m.pools)) i j d l n);
    used = λ pool. (
      λ has. used pool (let c = subst (λ ps. Contains ps pool) valued.firsts has in from_contains (used_state_pools m s.actions) pool c.0 c.1 c.2),
      λ has. subst (λ ps. Contains ps pool) (sym valued.firsts) (to_contains (used_state_pools m s.actions) pool (uses pool has)),
    );
  }
