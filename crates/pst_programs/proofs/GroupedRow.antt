-- Facts: two pairs of stream partners.
use Rattle.std.proofs.Common.{◌≡◌, ◌⊎◌, ℕ, zero, suc, ◌<◌, ◌≤◌, List, [], ◌∷◌, get_or, take, refl, sym, ap, subst, inl, inr, ⊎_elim, arith}
use Rattle.std.specs.Prelude.{Contains}
use Rattle.pst_scen.specs.Rows.{Has}
use Rattle.pst_programs.specs.declared.program.Instruction.{Instruction}
use Rattle.pst_programs.specs.declared.program.Instruction.TheVariants.{Run, Signal, Await}
use Rattle.pst_programs.specs.Serial.{group_of, IsOpen, IsNext, IsSerial, IsEarlier}
use Rattle.pst_programs.specs.Lanes.{Dealt, on_lane, ComesBefore, AreFewest, Deals}
use Rattle.pst_programs.specs.Lanes as lanes
use Rattle.pst_programs.specs.Programs.{program_at, Needs, Counts, IsAwaited, Told, Untold, Writes, Written, ArePrograms}
use Rattle.pst_programs.specs.Programs as text
use Rattle.pst_programs.specs.Grouped.{plan, programs, PairsAreTried}
use Rattle.pst_programs.proofs.Elements.{none_in, cons_cases, cons_first, cons_rest}
use Rattle.pst_programs.proofs.Places.{run_await, signal_await}

abbrev order : List ℕ
order = 0 ∷ 1 ∷ []

abbrev dealt : Dealt
dealt = (0, 0) ∷ (2, 1) ∷ (1, 0) ∷ (3, 1) ∷ []

one_of : {X : Type 0} (x y : X) → Contains (x ∷ []) y → x ≡ y
one_of x y c = ⊎_elim (λ e. e) (λ k. absurd (none_in y k)) (cons_cases x y [] c)

no_conflict : (a b : ℕ) → a < 4 → b < 4 → Has plan.conflict a b → ⊥
no_conflict zero zero l m h = h refl
no_conflict zero (suc zero) l m h = h refl
no_conflict zero (suc (suc zero)) l m h = h refl
no_conflict zero (suc (suc (suc zero))) l m h = h refl
no_conflict (suc zero) zero l m h = h refl
no_conflict (suc zero) (suc zero) l m h = h refl
no_conflict (suc zero) (suc (suc zero)) l m h = h refl
no_conflict (suc zero) (suc (suc (suc zero))) l m h = h refl
no_conflict (suc (suc zero)) zero l m h = h refl
no_conflict (suc (suc zero)) (suc zero) l m h = h refl
no_conflict (suc (suc zero)) (suc (suc zero)) l m h = h refl
no_conflict (suc (suc zero)) (suc (suc (suc zero))) l m h = h refl
no_conflict (suc (suc (suc zero))) zero l m h = h refl
no_conflict (suc (suc (suc zero))) (suc zero) l m h = h refl
no_conflict (suc (suc (suc zero))) (suc (suc zero)) l m h = h refl
no_conflict (suc (suc (suc zero))) (suc (suc (suc zero))) l m h = h refl
no_conflict (suc (suc (suc (suc a)))) b l m h = omega (arith, l)
no_conflict a (suc (suc (suc (suc b)))) l m h = omega (arith, m)

must_is : (a b : ℕ) → a < 4 → b < 4 → Has plan.must a b → (a ≡ 0) × ((b ≡ 1) ⊎ (b ≡ 3))
must_is zero zero l m h = absurd (h refl)
must_is zero (suc zero) l m h = (refl, inl refl)
must_is zero (suc (suc zero)) l m h = absurd (h refl)
must_is zero (suc (suc (suc zero))) l m h = (refl, inr refl)
must_is (suc zero) zero l m h = absurd (h refl)
must_is (suc zero) (suc zero) l m h = absurd (h refl)
must_is (suc zero) (suc (suc zero)) l m h = absurd (h refl)
must_is (suc zero) (suc (suc (suc zero))) l m h = absurd (h refl)
must_is (suc (suc zero)) zero l m h = absurd (h refl)
must_is (suc (suc zero)) (suc zero) l m h = absurd (h refl)
must_is (suc (suc zero)) (suc (suc zero)) l m h = absurd (h refl)
must_is (suc (suc zero)) (suc (suc (suc zero))) l m h = absurd (h refl)
must_is (suc (suc (suc zero))) zero l m h = absurd (h refl)
must_is (suc (suc (suc zero))) (suc zero) l m h = absurd (h refl)
must_is (suc (suc (suc zero))) (suc (suc zero)) l m h = absurd (h refl)
must_is (suc (suc (suc zero))) (suc (suc (suc zero))) l m h = absurd (h refl)
must_is (suc (suc (suc (suc a)))) b l m h = absurd (omega (arith, l))
must_is a (suc (suc (suc (suc b)))) l m h = absurd (omega (arith, m))

serial : IsSerial plan order
serial = record { each = each; all = all }
  where
    each : (k : ℕ) → k < 2 → IsNext plan (take k order) (get_or order k 0)
    each zero l = record {
      is_open = record {
        below = omega arith;
        number = refl;
        fresh = none_in 0;
        ready = λ a b m n e h. ⊎_elim
            (λ q. let f : 1 ≡ 0 = subst (λ v. group_of plan v ≡ 0) q e in absurd (omega (arith, f)))
            (λ q. let f : 1 ≡ 0 = subst (λ v. group_of plan v ≡ 0) q e in absurd (omega (arith, f))) (must_is a b m n h).1;
      };
      least = λ other o. omega arith;
    }
    each (suc zero) l = record {
      is_open = record {
        below = omega arith;
        number = refl;
        fresh = λ c. let e : 0 ≡ 1 = one_of 0 1 c in omega (arith, e);
        ready = λ a b m n e h. subst (λ v. Contains (0 ∷ []) (group_of plan v)) (sym (must_is a b m n h).0) (cons_first 0 []);
      };
      least = least;
    }
      where
        least : (other : ℕ) → IsOpen plan (0 ∷ []) other → 1 ≤ other
        least zero o = absurd (o.fresh (cons_first 0 []))
        least (suc other) o = omega arith
    each (suc (suc k)) l = absurd (omega (arith, l))

    all : (a : ℕ) → a < 4 → Contains order (group_of plan a)
    all zero l = cons_first 0 (1 ∷ [])
    all (suc zero) l = cons_rest 0 1 (1 ∷ []) (cons_first 1 [])
    all (suc (suc zero)) l = cons_first 0 (1 ∷ [])
    all (suc (suc (suc zero))) l = cons_rest 0 1 (1 ∷ []) (cons_first 1 [])
    all (suc (suc (suc (suc a)))) l = absurd (omega (arith, l))

abbrev both : List ℕ
both = 0 ∷ 1 ∷ []

-- both lanes, where each has as many actions
fewest : (before : Dealt) → ComesBefore before 0 1 → AreFewest 2 before 2 both
fewest before first = record { as_many = refl; below = below; ascending = ascending; fewest = λ l m h c b. here l h }
  where
    below : (l : ℕ) → Contains both l → l < 2
    below l c = ⊎_elim (λ e. omega (arith, e)) (λ k. let e = one_of 1 l k in omega (arith, e)) (cons_cases 0 l (1 ∷ []) c)

    ascending : (i j : ℕ) → i < j → j < 2 → ComesBefore before (get_or both i 0) (get_or both j 0)
    ascending zero (suc zero) l m = first
    ascending i zero l m = absurd (omega (arith, l))
    ascending (suc i) (suc zero) l m = absurd (omega (arith, l))
    ascending i (suc (suc j)) l m = absurd (omega (arith, m))

    here : (l : ℕ) → l < 2 → Contains both l
    here zero h = cons_first 0 (1 ∷ [])
    here (suc zero) h = cons_rest 0 1 (1 ∷ []) (cons_first 1 [])
    here (suc (suc l)) h = absurd (omega (arith, h))

deals : Deals plan 2 [] order dealt
deals = lanes.Then [] dealt 0 (1 ∷ []) both (fewest [] (inr (refl, omega arith)))
    (lanes.Then ((0, 0) ∷ (2, 1) ∷ []) dealt 1 [] both (fewest ((0, 0) ∷ (2, 1) ∷ []) (inr (refl, omega arith))) (lanes.Done dealt))

earlier_is : (g h : ℕ) → IsEarlier order g h → (g ≡ 0) × (h ≡ 1)
earlier_is g h e = by_places e.first e.second e.rising e.below e.is_first e.is_second
  where
    by_places : (i j : ℕ) → i < j → j < 2 → get_or order i 0 ≡ g → get_or order j 0 ≡ h → (g ≡ 0) × (h ≡ 1)
    by_places zero (suc zero) r b x y = (sym x, sym y)
    by_places zero zero r b x y = absurd (omega (arith, r))
    by_places (suc i) zero r b x y = absurd (omega (arith, r))
    by_places (suc i) (suc zero) r b x y = absurd (omega (arith, r))
    by_places i (suc (suc j)) r b x y = absurd (omega (arith, b))

abbrev at : ℕ → ℕ → ℕ × ℕ
at a l = (a, l)

fst : (x m a l : ℕ) → at a l ≡ at x m → (x ≡ a) × (m ≡ l)
fst x m a l e = (sym (ap (λ q. q.0) e), sym (ap (λ q. q.1) e))

-- the first action is on the first lane, and each action is below 4
first_lane : (x m : ℕ) → Contains dealt (x, m) → x ≡ 0 → m ≡ 0
first_lane x m c e =
    ⊎_elim (λ q. (fst x m 0 0 q).1)
    (λ c. ⊎_elim (λ q. let f = (fst x m 2 1 q).0 in absurd (omega (arith, e, f)))
    (λ c. ⊎_elim (λ q. (fst x m 1 0 q).1)
    (λ c. let f = (fst x m 3 1 (one_of (3, 1) (x, m) c)).0 in absurd (omega (arith, e, f)))
    (cons_cases (1, 0) (x, m) ((3, 1) ∷ []) c))
    (cons_cases (2, 1) (x, m) ((1, 0) ∷ (3, 1) ∷ []) c))
    (cons_cases (0, 0) (x, m) ((2, 1) ∷ (1, 0) ∷ (3, 1) ∷ []) c)

below_four : (x m : ℕ) → Contains dealt (x, m) → x < 4
below_four x m c =
    ⊎_elim (λ q. let f = (fst x m 0 0 q).0 in omega (arith, f))
    (λ c. ⊎_elim (λ q. let f = (fst x m 2 1 q).0 in omega (arith, f))
    (λ c. ⊎_elim (λ q. let f = (fst x m 1 0 q).0 in omega (arith, f))
    (λ c. let f = (fst x m 3 1 (one_of (3, 1) (x, m) c)).0 in omega (arith, f))
    (cons_cases (1, 0) (x, m) ((3, 1) ∷ []) c))
    (cons_cases (2, 1) (x, m) ((1, 0) ∷ (3, 1) ∷ []) c))
    (cons_cases (0, 0) (x, m) ((2, 1) ∷ (1, 0) ∷ (3, 1) ∷ []) c)

-- what is needed is the first action, on the first lane
needs_first : (a l x m : ℕ) → a < 4 → Needs plan order dealt a l x m → (x ≡ 0) × (m ≡ 0)
needs_first a l x m h n =
    let x_in = below_four x m n.there in
    let e : x ≡ 0 = ⊎_elim (λ q. (must_is x a x_in h q).0) (λ q. absurd (no_conflict x a x_in h q)) n.because in
    (e, first_lane x m n.there e)

counts : Counts plan order dealt (Run 2 ∷ []) 3 1 0 0
counts = record {
  needs = record {
    other = λ e. let q : 0 ≡ 1 = e in omega (arith, q);
    there = cons_first (0, 0) ((2, 1) ∷ (1, 0) ∷ (3, 1) ∷ []);
    earlier = record { first = 0; second = 1; rising = omega arith; below = omega arith; is_first = refl; is_second = refl };
    because = inl (λ e. let q : 8 ≡ 0 = e in omega (arith, q));
  };
  latest = λ y n e.
      let f = (needs_first 3 1 y 0 (omega arith) n).0 in
      let h = (earlier_is 0 (group_of plan y) e).1 in
      let g : 0 ≡ 1 = subst (λ v. group_of plan v ≡ 1) f h in omega (arith, g);
  new = λ y c d o. run_await 2 y (one_of (Run 2) (Await y) c);
}

pub pairs : PairsAreTried
pairs = record { many = refl; order = order; serial = serial; dealt = dealt; deals = deals; each = each }
  where
    none : (x : ℕ) (P : Type 0) → Contains [] x → P
    none x P c = absurd (none_in x c)

    early : (before : List Instruction) (a l : ℕ) → group_of plan a ≡ 0 → (x : ℕ) → (m : ℕ) × Counts plan order dealt before a l x m → Contains [] x
    early before a l g x k = let e = (earlier_is (group_of plan x) (group_of plan a) k.1.needs.earlier).1 in absurd (omega (arith, e, g))

    own : (before : List Instruction) (x : ℕ) → (m : ℕ) × Counts plan order dealt before 1 0 x m → Contains [] x
    own before x k = absurd (k.1.needs.other (needs_first 1 0 x k.0 (omega arith) k.1.needs).1)

    last_awaits : (x : ℕ) → Contains (0 ∷ []) x → (m : ℕ) × Counts plan order dealt (Run 2 ∷ []) 3 1 x m
    last_awaits x c = (0, subst (λ v. Counts plan order dealt (Run 2 ∷ []) 3 1 v 0) (one_of 0 x c) counts)

    last_one : (x : ℕ) → (m : ℕ) × Counts plan order dealt (Run 2 ∷ []) 3 1 x m → Contains (0 ∷ []) x
    last_one x k = subst (λ v. Contains (0 ∷ []) v) (sym (needs_first 3 1 x k.0 (omega arith) k.1.needs).0) (cons_first 0 [])

    no_await : (l a : ℕ) → (a ≡ 0 → ⊥) → IsAwaited programs l a → ⊥
    no_await l a n (zero, d, c) =
        ⊎_elim (λ e. run_await 0 a e) (λ k. ⊎_elim (λ e. signal_await 0 a e) (λ k. run_await 1 a (one_of (Run 1) (Await a) k)) (cons_cases (Signal 0) (Await a) (Run 1 ∷ []) k)) (cons_cases (Run 0) (Await a) (Signal 0 ∷ Run 1 ∷ []) c)
    no_await l a n (suc zero, d, c) =
        ⊎_elim (λ e. run_await 2 a e) (λ k. ⊎_elim (λ e. n (sym (await_is 0 a e))) (λ k. run_await 3 a (one_of (Run 3) (Await a) k)) (cons_cases (Await 0) (Await a) (Run 3 ∷ []) k)) (cons_cases (Run 2) (Await a) (Await 0 ∷ Run 3 ∷ []) c)
      where
        await_is : (c x : ℕ) → Await c ≡ Await x → c ≡ x
        await_is c x e = cc e
    no_await l a n (suc (suc m), d, c) = none_in (Await a) c

    nothing : (i j : ℕ) → i < j → j < 0 → get_or [] i 0 < get_or [] j 0
    nothing i j l m = absurd (omega (arith, m))

    single : (i j : ℕ) → i < j → j < 1 → get_or (0 ∷ []) i 0 < get_or (0 ∷ []) j 0
    single i j l m = absurd (omega (arith, l, m))

    each : (l : ℕ) → l < 2 → Writes plan order dealt programs l [] (on_lane dealt l) (program_at programs l)
    each zero l = text.Then [] _ (Signal 0 ∷ []) 0 (1 ∷ []) []
        (record { ascending = nothing; those = λ x. (none x _, early [] 0 0 refl x) })
        (Told (1, (λ e. let q : 1 ≡ 0 = e in omega (arith, q)), cons_rest (Run 2) (Await 0) (Await 0 ∷ Run 3 ∷ []) (cons_first (Await 0) (Run 3 ∷ []))))
        (text.Then (Run 0 ∷ Signal 0 ∷ []) _ [] 1 [] []
        (record { ascending = nothing; those = λ x. (none x _, own (Run 0 ∷ Signal 0 ∷ []) x) })
        (Untold (no_await 0 1 (λ e. omega (arith, e))))
        (Written _))
    each (suc zero) l = text.Then [] _ [] 2 (3 ∷ []) []
        (record { ascending = nothing; those = λ x. (none x _, early [] 2 1 refl x) })
        (Untold (no_await 1 2 (λ e. omega (arith, e))))
        (text.Then (Run 2 ∷ []) _ [] 3 [] (0 ∷ [])
        (record { ascending = single; those = λ x. (last_awaits x, last_one x) })
        (Untold (no_await 1 3 (λ e. omega (arith, e))))
        (Written _))
    each (suc (suc k)) l = absurd (omega (arith, l))
