-- The programs of a plan are safe.
use Rattle.std.proofs.Common.{◌≡◌, ◌⊎◌, ℕ, zero, suc, ◌<◌, ◌≤◌, List, [], ◌∷◌, ◌++◌, length, get_or, map, slice_get, Some, refl, sym, ap, ◌∙◌, subst, inl, inr, ⊎_elim, arith, append_assoc}
use Rattle.std.specs.Prelude.{Contains}
use Rattle.std.proofs.lemmas.List.Elements.{Contains-append_left, Contains-append_right, Contains-append_cases}
use Rattle.std.proofs.lemmas.Bool.{cases_eq, cases_lt}
use Rattle.pst_scen.specs.Rows.{Has}
use Rattle.pst_scen.specs.Plan.{Entries, members}
use Rattle.pst_order.specs.Laws.{MembersAreThose}
use Rattle.pst_programs.specs.declared.program.Instruction.{Instruction}
use Rattle.pst_programs.specs.declared.program.Instruction.TheVariants.{Run, Signal, Await}
use Rattle.pst_programs.specs.declared.program.Program.{Program}
use Rattle.pst_programs.specs.Lanes.{Dealt, on_lane}
use Rattle.pst_programs.specs.Programs.{program_at, Needs, Counts, AreAwaited, IsAwaited, SignalOf, Untold, Writes, Written, ArePrograms}
use Rattle.pst_programs.specs.Programs as text
use Rattle.pst_programs.specs.Safe.{Stands, AreSafe}
use Rattle.pst_programs.proofs.Elements.{none_in, cons_cases, cons_first, cons_rest}
use Rattle.pst_programs.proofs.Places.{some_one, none_some, lane_in, run_signal, run_await, signal_await}
use Rattle.pst_programs.proofs.Ranks.{index_of, rank, one_group, lesser, earlier, of_earlier}
use Rattle.pst_programs.proofs.Dealing.{Rising, on_contains, contains_on, IsDealt, whole_dealt}
use Rattle.pst_programs.proofs.Written.{get_at, get_left, get_below, get_of, of_get, of_awaits, to_awaits, runs, runs_more, runs_awaits, runs_get, runs_rise, runs_once, Back, back_more, back_get, Told, told_more, told_awaits}

-- ---- the greatest of finitely many

module _ (P : ℕ → Type 0) (f : ℕ → ℕ) (test : (a : ℕ) → P a ⊎ (P a → ⊥)) where
  record Greatest (n x : ℕ) : Type 0 where
    pub y : ℕ
    pub is : P y
    pub above : f x ≤ f y
    pub top : (z : ℕ) → z < n → P z → f z ≤ f y

  greatest : (n x : ℕ) → P x → Greatest n x
  greatest zero x h = record { y = x; is = h; above = omega arith; top = λ z l q. absurd (omega (arith, l)) }
  greatest (suc n) x h = with_test (greatest n x h) (test n)
    where
      with_test : Greatest n x → P n ⊎ (P n → ⊥) → Greatest (suc n) x
      with_test g (inr none) = record { y = g.y; is = g.is; above = g.above; top = λ z l q. ⊎_elim (λ m. g.top z m q) (λ m. let e : z ≡ n = omega (arith, l, m) in absurd (none (subst P e q))) (cases_lt z n) }
      with_test g (inl yes_) =
          ⊎_elim
          (λ m. let a = g.above in record { y = n; is = yes_; above = omega (arith, m, a); top = λ z l q. ⊎_elim (λ k. let t = g.top z k q in omega (arith, t, m)) (λ k. let e : z ≡ n = omega (arith, l, k) in let w : f z ≡ f n = ap f e in omega (arith, w)) (cases_lt z n) })
          (λ m. record { y = g.y; is = g.is; above = g.above; top = λ z l q. ⊎_elim (λ k. g.top z k q) (λ k. let e : z ≡ n = omega (arith, l, k) in let w : f z ≡ f n = ap f e in omega (arith, w, m)) (cases_lt z n) })
          (cases_lt (f g.y) (f n))

both : {A B : Type 0} → A ⊎ (A → ⊥) → B ⊎ (B → ⊥) → (A × B) ⊎ (A × B → ⊥)
both (inl a) (inl b) = inl (a, b)
both (inl a) (inr n) = inr (λ q. n q.1)
both (inr n) q = inr (λ q. n q.0)

one_or : {A B : Type 0} → A ⊎ (A → ⊥) → B ⊎ (B → ⊥) → (A ⊎ B) ⊎ (A ⊎ B → ⊥)
one_or (inl a) q = inl (inl a)
one_or (inr n) (inl b) = inl (inr b)
one_or (inr n) (inr m) = inr (λ q. ⊎_elim n m q)

not_or : {A : Type 0} → A ⊎ (A → ⊥) → (A → ⊥) ⊎ ((A → ⊥) → ⊥)
not_or (inl a) = inr (λ n. n a)
not_or (inr n) = inl n

dealt_or : (dealt : Dealt) (a l : ℕ) → Contains dealt (a, l) ⊎ (Contains dealt (a, l) → ⊥)
dealt_or [] a l = inr (none_in (a, l))
dealt_or (d ∷ more) a l =
    ⊎_elim (λ e. ⊎_elim (λ f. inl (subst (λ v. Contains (d ∷ more) v) (λ i. (e i, f i)) (cons_first d more))) (λ n. rest (λ q. n (ap (λ w. w.1) q)) (dealt_or more a l)) (cases_eq d.1 l))
    (λ n. rest (λ q. n (ap (λ w. w.0) q)) (dealt_or more a l)) (cases_eq d.0 a)
  where
    rest : (d ≡ (a, l) → ⊥) → Contains more (a, l) ⊎ (Contains more (a, l) → ⊥) → Contains (d ∷ more) (a, l) ⊎ (Contains (d ∷ more) (a, l) → ⊥)
    rest n (inl c) = inl (cons_rest d (a, l) more c)
    rest n (inr m) = inr (λ c. ⊎_elim n m (cons_cases d (a, l) more c))

module _ (p : Entries) (lanes : ℕ) (programs : List Program) (those : MembersAreThose)
    (ascends : (g i j : ℕ) → i < j → j < length (members p.groups g) → get_or (members p.groups g) i 0 < get_or (members p.groups g) j 0)
    (are : ArePrograms p lanes programs) where
  abbrev order : List ℕ
  order = are.order

  abbrev rank_of : ℕ → ℕ
  rank_of a = rank p order are.serial a

  dealt_is : IsDealt p lanes order are.serial those ascends order are.dealt
  dealt_is = whole_dealt p lanes order are.serial those ascends are.dealt are.deals

  in_plan : (a l : ℕ) → Contains are.dealt (a, l) → a < length p.groups
  in_plan a l c = (dealt_is.inside a l c).0

  abbrev OneNeeds : ℕ → ℕ → ℕ → ℕ → Type 0
  OneNeeds a l m x = Needs p order are.dealt a l x m

  needs_or : (a l m : ℕ) → a < length p.groups → (x : ℕ) → OneNeeds a l m x ⊎ (OneNeeds a l m x → ⊥)
  needs_or a l m a_in x =
      ⊎_elim
      (λ q. inl (record { other = q.0; there = q.1.0; earlier = earlier p order are.serial x a (in_plan x m q.1.0) a_in q.1.1.0; because = q.1.1.1 }))
      (λ n. inr (λ q. n (q.other, (q.there, (of_earlier p order are.serial x a q.earlier, q.because)))))
      (both (not_or (cases_eq m l)) (both (dealt_or are.dealt x m) (both (lt_or (rank_of x) (rank_of a)) (one_or (has_or p.must x a) (has_or p.conflict x a)))))
    where
      lt_or : (a b : ℕ) → (a < b) ⊎ (a < b → ⊥)
      lt_or a b = ⊎_elim (λ h. inl h) (λ h. inr (λ q. omega (arith, h, q))) (cases_lt a b)

      has_or : (r : _) (a b : ℕ) → Has r a b ⊎ (Has r a b → ⊥)
      has_or r a b = not_or (cases_eq _ 0)

  -- ---- one lane

  module _ (l : ℕ) where
    -- it awaits that one already, or a later one
    abbrev Already : List Instruction → ℕ → ℕ → Type 0
    Already before x m = (y : ℕ) × Contains before (Await y) × Contains are.dealt (y, m) × (rank_of x ≤ rank_of y)

    already_or : (before : List Instruction) (x m : ℕ) → Already before x m ⊎ (Already before x m → ⊥)
    already_or [] x m = inr (λ q. none_in (Await q.0) q.1)
    already_or (Run a ∷ before) x m = ⊎_elim (λ q. inl (q.0, cons_rest (Run a) (Await q.0) before q.1, q.2, q.3)) (λ n. inr (λ q. ⊎_elim (λ e. run_await a q.0 e) (λ k. n (q.0, k, q.2, q.3)) (cons_cases (Run a) (Await q.0) before q.1))) (already_or before x m)
    already_or (Signal a ∷ before) x m = ⊎_elim (λ q. inl (q.0, cons_rest (Signal a) (Await q.0) before q.1, q.2, q.3)) (λ n. inr (λ q. ⊎_elim (λ e. signal_await a q.0 e) (λ k. n (q.0, k, q.2, q.3)) (cons_cases (Signal a) (Await q.0) before q.1))) (already_or before x m)
    already_or (Await a ∷ before) x m =
        ⊎_elim (λ q. inl (q.0, cons_rest (Await a) (Await q.0) before q.1, q.2, q.3))
        (λ n. ⊎_elim (λ q. inl (a, cons_first (Await a) before, q.0, q.1))
        (λ o. inr (λ q. ⊎_elim (λ e. o (subst (λ v. Contains are.dealt (v, m)) (sym (await_is a q.0 e)) q.2, subst (λ v. rank_of x ≤ rank_of v) (sym (await_is a q.0 e)) q.3)) (λ k. n (q.0, k, q.2, q.3)) (cons_cases (Await a) (Await q.0) before q.1)))
        (both (dealt_or are.dealt a m) (le_or (rank_of x) (rank_of a))))
        (already_or before x m)
      where
        await_is : (c x : ℕ) → Await c ≡ Await x → c ≡ x
        await_is c x e = cc e

        le_or : (a b : ℕ) → (a ≤ b) ⊎ (a ≤ b → ⊥)
        le_or a b = ⊎_elim (λ h. inr (λ q. omega (arith, h, q))) (λ h. inl h) (cases_lt b a)

    -- where an action is written, each that it needs, or a later one of its lane, is awaited
    hears : (before : List Instruction) (a : ℕ) (awaited : List ℕ) → a < length p.groups → AreAwaited p order are.dealt before a l awaited → (x m : ℕ) → OneNeeds a l m x → Already (before ++ map Await awaited) x m
    hears before a awaited a_in aw x m needs =
        let g = greatest (OneNeeds a l m) rank_of (needs_or a l m a_in) (length p.groups) x needs in
        let up = g.above in
        ⊎_elim
        (λ q. let k = q.3 in (q.0, Contains-append_left before (map Await awaited) (Await q.0) q.1, q.2, omega (arith, up, k)))
        (λ n. (g.y, Contains-append_right before (map Await awaited) (Await g.y) (to_awaits awaited g.y ((aw.those g.y).1 (m, counts g n))), g.is.there, up))
        (already_or before g.y m)
      where
        counts : (g : Greatest (OneNeeds a l m) rank_of (needs_or a l m a_in) (length p.groups) x) → (Already before g.y m → ⊥) → Counts p order are.dealt before a l g.y m
        counts g n = record {
          needs = g.is;
          latest = λ z q e. let t = g.top z (in_plan z m q.there) q in let o = of_earlier p order are.serial g.y z e in omega (arith, t, o);
          new = λ z c d o. n (z, c, d, ⊎_elim (λ e. let w : rank_of z ≡ rank_of g.y = ap rank_of e in omega (arith, w)) (λ e. let w = of_earlier p order are.serial g.y z e in omega (arith, w)) o);
        }

    -- what the writing keeps of the rest
    begins : (before whole : List Instruction) (acts : List ℕ) → Writes p order are.dealt programs l before acts whole → (rest : List Instruction) × (whole ≡ before ++ rest)
    begins _ _ _ (Written steps) = ([], sym (append_nil steps))
      where
        append_nil : {X : Type 0} (xs : List X) → xs ++ [] ≡ xs
        append_nil [] = refl
        append_nil (x ∷ xs) = ap (λ v. x ∷ v) (append_nil xs)
    begins _ _ _ (text.Then before whole signal a more awaited aw sig w) =
        let r = begins (before ++ (map Await awaited ++ Run a ∷ signal)) whole more w in
        ((map Await awaited ++ Run a ∷ signal) ++ r.0, r.1 ∙ append_assoc before (map Await awaited ++ Run a ∷ signal) r.0)

    runs_signal : (a : ℕ) (signal : List Instruction) → SignalOf programs l a signal → runs signal ≡ []
    runs_signal a _ (text.Told h) = refl
    runs_signal a _ (Untold h) = refl

    runs_part : (a : ℕ) (awaited : List ℕ) (signal : List Instruction) → SignalOf programs l a signal → runs (map Await awaited ++ Run a ∷ signal) ≡ a ∷ []
    runs_part a awaited signal sig = runs_more (map Await awaited) (Run a ∷ signal) ∙ (λ i. runs_awaits awaited i ++ a ∷ runs_signal a signal sig i)

    writes_runs : (before whole : List Instruction) (acts : List ℕ) → Writes p order are.dealt programs l before acts whole → runs whole ≡ runs before ++ acts
    writes_runs _ _ _ (Written steps) = sym (append_nil (runs steps))
      where
        append_nil : {X : Type 0} (xs : List X) → xs ++ [] ≡ xs
        append_nil [] = refl
        append_nil (x ∷ xs) = ap (λ v. x ∷ v) (append_nil xs)
    writes_runs _ _ _ (text.Then before whole signal a more awaited aw sig w) =
        writes_runs (before ++ (map Await awaited ++ Run a ∷ signal)) whole more w ∙ ap (λ v. v ++ more) (runs_more before (map Await awaited ++ Run a ∷ signal) ∙ ap (λ v. runs before ++ v) (runs_part a awaited signal sig))
        ∙ append_assoc (runs before) (a ∷ []) more

    told_signal : (a : ℕ) (signal : List Instruction) → SignalOf programs l a signal → Told (Run a ∷ signal)
    told_signal a _ (text.Told h) x zero e = absurd (run_signal a x (some_one (Run a) (Signal x) e))
    told_signal a _ (text.Told h) x (suc zero) e = (0, refl, ap (λ v. Some (Run v)) (signal_is a x (some_one (Signal a) (Signal x) e)))
      where
        signal_is : (c x : ℕ) → Signal c ≡ Signal x → c ≡ x
        signal_is c x e = cc e
    told_signal a _ (text.Told h) x (suc (suc k)) e = absurd (none_some (Signal x) e)
    told_signal a _ (Untold h) x zero e = absurd (run_signal a x (some_one (Run a) (Signal x) e))
    told_signal a _ (Untold h) x (suc k) e = absurd (none_some (Signal x) e)

    writes_told : (before whole : List Instruction) (acts : List ℕ) → Writes p order are.dealt programs l before acts whole → Told before → Told whole
    writes_told _ _ _ (Written steps) t = t
    writes_told _ _ _ (text.Then before whole signal a more awaited aw sig w) t =
        writes_told (before ++ (map Await awaited ++ Run a ∷ signal)) whole more w (told_more before (map Await awaited ++ Run a ∷ signal) t (told_more (map Await awaited) (Run a ∷ signal) (told_awaits awaited) (told_signal a signal sig)))

    -- what is awaited counts for an action of the lane
    writes_awaits : (before whole : List Instruction) (acts : List ℕ) → Writes p order are.dealt programs l before acts whole → (x : ℕ) → Contains whole (Await x)
        → Contains before (Await x) ⊎ ((a : ℕ) × (m : ℕ) × Contains acts a × OneNeeds a l m x)
    writes_awaits _ _ _ (Written steps) x c = inl c
    writes_awaits _ _ _ (text.Then before whole signal a more awaited aw sig w) x c =
        ⊎_elim
        (λ k. ⊎_elim (λ h. inl h)
        (λ h. ⊎_elim
        (λ q. let r = of_awaits awaited (Await x) q in
        let n = (aw.those r.0).0 r.2 in
        inr (a, n.0, cons_first a more, subst (λ v. OneNeeds a l n.0 v) (sym (await_is x r.0 r.1)) n.1.needs))
        (λ q. absurd (no_await a signal sig x q))
        (Contains-append_cases (map Await awaited) (Run a ∷ signal) (Await x) h))
        (Contains-append_cases before (map Await awaited ++ Run a ∷ signal) (Await x) k))
        (λ k. inr (k.0, k.1, cons_rest a k.0 more k.2, k.3))
        (writes_awaits (before ++ (map Await awaited ++ Run a ∷ signal)) whole more w x c)
      where
        await_is : (c x : ℕ) → Await c ≡ Await x → c ≡ x
        await_is c x e = cc e

        no_await : (a : ℕ) (signal : List Instruction) → SignalOf programs l a signal → (x : ℕ) → Contains (Run a ∷ signal) (Await x) → ⊥
        no_await a _ (text.Told h) x c = ⊎_elim (λ e. run_await a x e) (λ k. ⊎_elim (λ e. signal_await a x e) (λ q. none_in (Await x) q) (cons_cases (Signal a) (Await x) [] k)) (cons_cases (Run a) (Await x) (Signal a ∷ []) c)
        no_await a _ (Untold h) x c = ⊎_elim (λ e. run_await a x e) (λ k. none_in (Await x) k) (cons_cases (Run a) (Await x) [] c)

    writes_back : (before whole : List Instruction) (acts : List ℕ) → Writes p order are.dealt programs l before acts whole → Rising rank_of acts → Back rank_of before
        → ((x b : ℕ) → Contains before (Await x) → Contains acts b → rank_of x < rank_of b) → Back rank_of whole
    writes_back _ _ _ (Written steps) up back h = back
    writes_back _ _ _ (text.Then before whole signal a more awaited aw sig w) up back h =
        let part : List Instruction = map Await awaited ++ Run a ∷ signal in
        let new : (x : ℕ) → Contains part (Await x) → rank_of x < rank_of a = λ x c.
        ⊎_elim (λ q. of_needed x (of_awaits awaited (Await x) q)) (λ q. absurd (no_await a signal sig x q)) (Contains-append_cases (map Await awaited) (Run a ∷ signal) (Await x) c) in
        writes_back (before ++ part) whole more w up.1
        (back_more rank_of before part back (back_part a awaited signal sig (λ x c. of_needed x (x, refl, c)))
        (λ x b c k. h x b c (only_a b (subst (λ v. Contains v b) (runs_part a awaited signal sig) k))))
        (λ x b c k. ⊎_elim (λ q. h x b q (cons_rest a b more k)) (λ q. let r = new x q in let t = up.0 b k in omega (arith, r, t)) (Contains-append_cases before part (Await x) c))
      where
        await_is : (c x : ℕ) → Await c ≡ Await x → c ≡ x
        await_is c x e = cc e

        of_needed : (x : ℕ) → (y : ℕ) × (Await x ≡ Await y) × Contains awaited y → rank_of x < rank_of a
        of_needed x r = let n = (aw.those r.0).0 r.2 in subst (λ v. rank_of v < rank_of a) (sym (await_is x r.0 r.1)) (of_earlier p order are.serial r.0 a n.1.needs.earlier)

        no_await : (a : ℕ) (signal : List Instruction) → SignalOf programs l a signal → (x : ℕ) → Contains (Run a ∷ signal) (Await x) → ⊥
        no_await a _ (text.Told h) x c = ⊎_elim (λ e. run_await a x e) (λ k. ⊎_elim (λ e. signal_await a x e) (λ q. none_in (Await x) q) (cons_cases (Signal a) (Await x) [] k)) (cons_cases (Run a) (Await x) (Signal a ∷ []) c)
        no_await a _ (Untold h) x c = ⊎_elim (λ e. run_await a x e) (λ k. none_in (Await x) k) (cons_cases (Run a) (Await x) [] c)

        only_a : (b : ℕ) → Contains (a ∷ []) b → Contains (a ∷ more) b
        only_a b c = ⊎_elim (λ e. subst (λ v. Contains (a ∷ more) v) e (cons_first a more)) (λ k. absurd (none_in b k)) (cons_cases a b [] c)

        back_signal : (a : ℕ) (signal : List Instruction) → SignalOf programs l a signal → Back rank_of (Run a ∷ signal)
        back_signal a _ (text.Told h) = tt
        back_signal a _ (Untold h) = tt

        back_part : (a : ℕ) (awaited : List ℕ) (signal : List Instruction) → SignalOf programs l a signal → ((x : ℕ) → Contains awaited x → rank_of x < rank_of a) → Back rank_of (map Await awaited ++ Run a ∷ signal)
        back_part a [] signal sig h = back_signal a signal sig
        back_part a (x ∷ awaited) signal sig h = (
          λ b c. let e : a ≡ b = ⊎_elim (λ q. q) (λ q. absurd (none_in b q)) (cons_cases a b [] (subst (λ v. Contains v b) (runs_part a awaited signal sig) c)) in subst (λ v. rank_of x < rank_of v) e (h x (cons_first x awaited)),
          back_part a awaited signal sig (λ y c. h y (cons_rest x y awaited c)),
        )

    -- where an action of the lane stands
    record Site (a : ℕ) (whole : List Instruction) : Type 0 where
      pub k : ℕ
      pub run : slice_get whole k ≡ Some (Run a)
      pub signal : IsAwaited programs l a → slice_get whole (suc k) ≡ Some (Signal a)
      pub heard : (x m : ℕ) → OneNeeds a l m x → (y : ℕ) × (i : ℕ) × (i < k) × (slice_get whole i ≡ Some (Await y)) × Contains are.dealt (y, m) × (rank_of x ≤ rank_of y)

    writes_sites : (before whole : List Instruction) (acts : List ℕ) → Writes p order are.dealt programs l before acts whole → ((a : ℕ) → Contains acts a → a < length p.groups) → (a : ℕ) → Contains acts a → Site a whole
    writes_sites _ _ _ (Written steps) inside b c = absurd (none_in b c)
    writes_sites _ _ _ (text.Then before whole signal a more awaited aw sig w) inside b c =
        ⊎_elim (λ e. subst (λ v. Site v whole) e (here (begins (before ++ (map Await awaited ++ Run a ∷ signal)) whole more w)))
        (λ k. writes_sites (before ++ (map Await awaited ++ Run a ∷ signal)) whole more w (λ d q. inside d (cons_rest a d more q)) b k)
        (cons_cases a b more c)
      where
        split : (rest : List Instruction) → whole ≡ (before ++ (map Await awaited ++ Run a ∷ signal)) ++ rest → whole ≡ (before ++ map Await awaited) ++ Run a ∷ (signal ++ rest)
        split rest e = e ∙ ap (λ v. v ++ rest) (sym (append_assoc before (map Await awaited) (Run a ∷ signal))) ∙ append_assoc (before ++ map Await awaited) (Run a ∷ signal) rest

        told_at : (pre rest signal : List Instruction) → SignalOf programs l a signal → IsAwaited programs l a → slice_get (pre ++ Run a ∷ (signal ++ rest)) (suc (length pre)) ≡ Some (Signal a)
        told_at [] rest _ (text.Told h) aw = refl
        told_at [] rest _ (Untold h) aw = absurd (h aw)
        told_at (i ∷ pre) rest signal s aw = told_at pre rest signal s aw

        here : (rest : List Instruction) × (whole ≡ (before ++ (map Await awaited ++ Run a ∷ signal)) ++ rest) → Site a whole
        here r =
            let pre : List Instruction = before ++ map Await awaited in
            let e = split r.0 r.1 in
            record {
              k = length pre;
              run = subst (λ v. slice_get v (length pre) ≡ Some (Run a)) (sym e) (get_at pre (signal ++ r.0) (Run a));
              signal = λ h. subst (λ v. slice_get v (suc (length pre)) ≡ Some (Signal a)) (sym e) (told_at pre r.0 signal sig h);
              heard = λ x m needs.
                  let q = hears before a awaited (inside a (cons_first a more)) aw x m needs in
                  let i = get_of pre (Await q.0) q.1 in
                  (q.0, i.0, get_below pre i.0 (Await q.0) i.1, subst (λ v. slice_get v i.0 ≡ Some (Await q.0)) (sym e) (get_left pre (Run a ∷ (signal ++ r.0)) i.0 (Await q.0) i.1), q.2, q.3);
            }

  -- ---- all lanes

  there : (l k : ℕ) (i : Instruction) → Stands programs l k i → l < lanes
  there l k i e = let h = lane_in programs l k i e in let m = are.many in omega (arith, h, m)

  lane_runs : (l : ℕ) → l < lanes → runs (program_at programs l) ≡ on_lane are.dealt l
  lane_runs l h = writes_runs l [] (program_at programs l) (on_lane are.dealt l) (are.each l h)

  lane_rises : (l : ℕ) → l < lanes → Rising rank_of (runs (program_at programs l))
  lane_rises l h = subst (Rising rank_of) (sym (lane_runs l h)) (dealt_is.rising l)

  dealt_at : (a l k : ℕ) → Stands programs l k (Run a) → Contains are.dealt (a, l)
  dealt_at a l k e = on_contains are.dealt l a (subst (λ v. Contains v a) (lane_runs l (there l k (Run a) e)) (runs_get (program_at programs l) k a e))

  site : (a l : ℕ) → Contains are.dealt (a, l) → Site l a (program_at programs l)
  site a l c =
      let h = (dealt_is.inside a l c).1 in
      writes_sites l [] (program_at programs l) (on_lane are.dealt l) (are.each l h) (λ b k. in_plan b l (on_contains are.dealt l b k)) a (contains_on are.dealt l a c)

  needs_of_await : (x m j : ℕ) → Stands programs m j (Await x) → (a : ℕ) × (l : ℕ) × OneNeeds a m l x
  needs_of_await x m j e =
      let h = there m j (Await x) e in
      ⊎_elim (λ c. absurd (none_in (Await x) c)) (λ q. (q.0, q.1, q.3)) (writes_awaits m [] (program_at programs m) (on_lane are.dealt m) (are.each m h) x (of_get (program_at programs m) j (Await x) e))

  pub are_safe : AreSafe p programs
  are_safe = record {
    rank = rank_of;
    of_group = λ a b l m e. ap (index_of order) e;
    one_group = λ a b l m e. one_group p order are.serial a b l m e;
    lesser = λ a b l m h. lesser p order are.serial a b l m h;
    some = λ a l. let d = dealt_is.some a l (are.serial.all a l) in let s = site a d.0 d.1 in (d.0, s.k, s.run);
    inside = λ a l k e. in_plan a l (dealt_at a l k e);
    only = λ a l m j k x y.
        let e = dealt_is.only a l m (dealt_at a l j x) (dealt_at a m k y) in
        (e, runs_once rank_of (program_at programs m) (lane_rises m (there m k (Run a) y)) a j k (subst (λ v. Stands programs v j (Run a)) e x) y);
    rising = λ a b l j k x y h. runs_rise rank_of (program_at programs l) (lane_rises l (there l j (Run a) x)) a b j k x y h;
    told = λ x m j e.
        let n = needs_of_await x m j e in
        let s = site x n.1 n.2.there in
        (n.1, s.k, s.run, s.signal (m, (λ q. n.2.other (sym q)), of_get (program_at programs m) j (Await x) e));
    behind = λ x l k e. writes_told l [] (program_at programs l) (on_lane are.dealt l) (are.each l (there l k (Signal x) e)) (λ y i f. absurd (none_some (Signal y) f)) x k e;
    back = λ x b l j k e f h.
        back_get rank_of (program_at programs l)
        (writes_back l [] (program_at programs l) (on_lane are.dealt l) (are.each l (there l j (Await x) e)) (dealt_is.rising l) tt (λ y d c q. absurd (none_in (Await y) c)))
        x b j k e f h;
    needed = λ x a l k x_in r because e.
        let d = dealt_is.some x x_in (are.serial.all x x_in) in
        let s = site x d.0 d.1 in
        let a_at = dealt_at a l k e in
        let t = site a l a_at in
        let same = runs_once rank_of (program_at programs l) (lane_rises l (there l k (Run a) e)) a t.k k t.run e in
        ⊎_elim
        (λ q. inl (s.k, subst (λ v. Stands programs v s.k (Run x)) q s.run))
        (λ q.
        let h = t.heard x d.0 (record { other = q; there = d.1; earlier = earlier p order are.serial x a x_in (in_plan a l a_at) r; because = because }) in
        let y = site h.0 d.0 h.4 in
        let le : s.k ≤ y.k = ⊎_elim (λ b. let z = runs_rise rank_of (program_at programs d.0) (lane_rises d.0 (there d.0 y.k (Run h.0) y.run)) h.0 x y.k s.k y.run s.run b in let w = h.5 in absurd (omega (arith, z, w))) (λ b. b) (cases_lt y.k s.k) in
        let lt = h.2 in
        inr (record { later = h.0; from = d.0; at = s.k; later_at = y.k; await_at = h.1; run = s.run; later_run = y.run; not_earlier = le; await = h.3; before = omega (arith, lt, same) }))
        (cases_eq d.0 l);
  }
