-- Programs are drafts with signals.
use Rattle.std.proofs.Common.{◌≡◌, ◌≢◌, ◌⊎◌, ℕ, zero, suc, ◌<◌, ◌≤◌, List, [], ◌∷◌, ◌++◌, length, get_or, map, slice_get, Some, Bool, true, false, refl, sym, ap, ◌∙◌, subst, inl, inr, ⊎_elim, arith, append_assoc}
use Rattle.std.specs.Prelude.{◌↔◌, Contains, if◌then◌else◌}
use Rattle.std.specs.Global.{Vec}
use Rattle.std.proofs.lemmas.List.Elements.{Contains-append_right, Contains-append_cases}
use Rattle.std.proofs.lemmas.Bool.{cases_lt}
use Rattle.pst_scen.specs.Plan.{Entries}
use Rattle.pst_book.proofs.Elements.{none_in, cons_cases, cons_first, cons_rest}
use Rattle.pst_programs.specs.declared.program.Instruction.{Instruction}
use Rattle.pst_programs.specs.declared.program.Instruction.TheVariants.{Run, Signal, Await}
use Rattle.pst_programs.specs.declared.program.Program.{Program}
use Rattle.pst_programs.specs.Serial.{IsSerial}
use Rattle.pst_programs.specs.Lanes.{Dealt, on_lane, Deals}
use Rattle.pst_programs.specs.Programs.{program_at, AreAwaited, IsAwaited, SignalOf, Told, Untold, Writes, Written, ArePrograms}
use Rattle.pst_programs.specs.Programs as text
use Rattle.pst_programs.proofs.Places.{run_one, run_await, signal_await}
use Rattle.pst_programs.proofs.Dealing.{on_contains}
use Rattle.pst_programs.proofs.Written.{of_awaits}
use Rattle.pst_programs.proofs.OnlyOne.{SameAwaits, counts_same, back}
use Rattle.pst_static.specs.Drafts.{Drafts, Drafted, signalled, AreDrafts}
use Rattle.pst_static.specs.Drafts as draft

-- the signal behind an action, where it is marked
abbrev signal : List Bool → ℕ → List Instruction
signal told a = if get_or told a false then Signal a ∷ [] else []

module _ (told : List Bool) where
  signalled_run : (a : ℕ) (more : List Instruction) → signalled told (Run a ∷ more) ≡ Run a ∷ (signal told a ++ signalled told more)
  signalled_run a more = by_test (get_or told a false) (signalled told more)
    where
      by_test : (b : Bool) (rest : List Instruction) → (if b then Run a ∷ Signal a ∷ rest else Run a ∷ rest) ≡ Run a ∷ ((if b then Signal a ∷ [] else []) ++ rest)
      by_test true rest = refl
      by_test false rest = refl

  pub signalled_more : (xs ys : List Instruction) → signalled told (xs ++ ys) ≡ signalled told xs ++ signalled told ys
  signalled_more [] ys = refl
  signalled_more (Run a ∷ xs) ys =
      signalled_run a (xs ++ ys) ∙ ap (λ v. Run a ∷ (signal told a ++ v)) (signalled_more xs ys)
      ∙ ap (λ v. Run a ∷ v) (sym (append_assoc (signal told a) (signalled told xs) (signalled told ys)))
      ∙ ap (λ v. v ++ signalled told ys) (sym (signalled_run a xs))
  signalled_more (Signal a ∷ xs) ys = ap (λ v. Signal a ∷ v) (signalled_more xs ys)
  signalled_more (Await a ∷ xs) ys = ap (λ v. Await a ∷ v) (signalled_more xs ys)

  signalled_awaits : (xs : List ℕ) → signalled told (map Await xs) ≡ map Await xs
  signalled_awaits [] = refl
  signalled_awaits (x ∷ xs) = ap (λ v. Await x ∷ v) (signalled_awaits xs)

  signal_no_await : (a x : ℕ) → Contains (signal told a) (Await x) → ⊥
  signal_no_await a x c = by_test (get_or told a false) c
    where
      by_test : (b : Bool) → Contains (if b then Signal a ∷ [] else []) (Await x) → ⊥
      by_test true k = ⊎_elim (λ e. signal_await a x e) (λ q. none_in (Await x) q) (cons_cases (Signal a) (Await x) [] k)
      by_test false k = none_in (Await x) k

  -- signals change nothing of what is awaited
  awaits_to : (xs : List Instruction) (x : ℕ) → Contains xs (Await x) → Contains (signalled told xs) (Await x)
  awaits_to [] x c = absurd (none_in (Await x) c)
  awaits_to (Run a ∷ xs) x c =
      ⊎_elim (λ e. absurd (run_await a x e))
      (λ k. subst (λ v. Contains v (Await x)) (sym (signalled_run a xs)) (cons_rest (Run a) (Await x) (signal told a ++ signalled told xs) (Contains-append_right (signal told a) (signalled told xs) (Await x) (awaits_to xs x k))))
      (cons_cases (Run a) (Await x) xs c)
  awaits_to (Signal a ∷ xs) x c = ⊎_elim (λ e. absurd (signal_await a x e)) (λ k. cons_rest (Signal a) (Await x) (signalled told xs) (awaits_to xs x k)) (cons_cases (Signal a) (Await x) xs c)
  awaits_to (Await a ∷ xs) x c =
      ⊎_elim (λ e. subst (λ v. Contains (Await a ∷ signalled told xs) v) e (cons_first (Await a) (signalled told xs))) (λ k. cons_rest (Await a) (Await x) (signalled told xs) (awaits_to xs x k)) (cons_cases (Await a) (Await x) xs c)

  awaits_from : (xs : List Instruction) (x : ℕ) → Contains (signalled told xs) (Await x) → Contains xs (Await x)
  awaits_from [] x c = absurd (none_in (Await x) c)
  awaits_from (Run a ∷ xs) x c =
      ⊎_elim (λ e. absurd (run_await a x e))
      (λ k. ⊎_elim (λ q. absurd (signal_no_await a x q)) (λ q. cons_rest (Run a) (Await x) xs (awaits_from xs x q)) (Contains-append_cases (signal told a) (signalled told xs) (Await x) k))
      (cons_cases (Run a) (Await x) (signal told a ++ signalled told xs) (subst (λ v. Contains v (Await x)) (signalled_run a xs) c))
  awaits_from (Signal a ∷ xs) x c = ⊎_elim (λ e. absurd (signal_await a x e)) (λ k. cons_rest (Signal a) (Await x) xs (awaits_from xs x k)) (cons_cases (Signal a) (Await x) (signalled told xs) c)
  awaits_from (Await a ∷ xs) x c =
      ⊎_elim (λ e. subst (λ v. Contains (Await a ∷ xs) v) e (cons_first (Await a) xs)) (λ k. cons_rest (Await a) (Await x) xs (awaits_from xs x k)) (cons_cases (Await a) (Await x) (signalled told xs) c)

module _ (p : Entries) (order : List ℕ) (dealt : Dealt) (l : ℕ) where
  -- one action more
  pub draft_more : (before whole : List Instruction) (acts : List ℕ) (a : ℕ) (awaited : List ℕ) → Drafts p order dealt l before acts whole → AreAwaited p order dealt whole a l awaited
      → Drafts p order dealt l before (acts ++ a ∷ []) (whole ++ (map Await awaited ++ Run a ∷ []))
  draft_more _ _ _ a awaited (Drafted steps) are = draft.Then steps (steps ++ (map Await awaited ++ Run a ∷ [])) a [] awaited are (Drafted (steps ++ (map Await awaited ++ Run a ∷ [])))
  draft_more _ _ _ a awaited (draft.Then before whole b more xs first rest) are =
      draft.Then before (whole ++ (map Await awaited ++ Run a ∷ [])) b (more ++ a ∷ []) xs first (draft_more (before ++ (map Await xs ++ Run b ∷ [])) whole more a awaited rest are)

  -- what a draft awaits is on another lane
  pub draft_awaits : (before whole : List Instruction) (acts : List ℕ) → Drafts p order dealt l before acts whole → (x : ℕ) → Contains whole (Await x)
      → Contains before (Await x) ⊎ ((m : ℕ) × (m ≢ l) × Contains dealt (x, m))
  draft_awaits _ _ _ (Drafted steps) x c = inl c
  draft_awaits _ _ _ (draft.Then before whole a more awaited are rest) x c =
      ⊎_elim
      (λ k. ⊎_elim (λ q. inl q)
      (λ q. ⊎_elim
      (λ r. let w = of_awaits awaited (Await x) r in
      let e : w.0 ≡ x = await_is w.0 x (sym w.1) in
      let n = (are.those x).0 (subst (λ v. Contains awaited v) e w.2) in
      inr (n.0, n.1.needs.other, n.1.needs.there))
      (λ r. absurd (⊎_elim (λ e. run_await a x e) (λ s. none_in (Await x) s) (cons_cases (Run a) (Await x) [] r)))
      (Contains-append_cases (map Await awaited) (Run a ∷ []) (Await x) q))
      (Contains-append_cases before (map Await awaited ++ Run a ∷ []) (Await x) k))
      (λ k. inr k)
      (draft_awaits (before ++ (map Await awaited ++ Run a ∷ [])) whole more rest x c)
    where
      await_is : (a b : ℕ) → Await a ≡ Await b → a ≡ b
      await_is a b e = cc e

  -- what runs in a draft is one of its actions
  pub draft_runs : (before whole : List Instruction) (acts : List ℕ) → Drafts p order dealt l before acts whole → (a : ℕ) → Contains whole (Run a) → Contains before (Run a) ⊎ Contains acts a
  draft_runs _ _ _ (Drafted steps) a c = inl c
  draft_runs _ _ _ (draft.Then before whole b more awaited are rest) a c =
      ⊎_elim
      (λ k. ⊎_elim (λ q. inl q)
      (λ q. ⊎_elim (λ r. let w = of_awaits awaited (Run a) r in absurd (run_await a w.0 w.1))
      (λ r. ⊎_elim (λ e. inr (subst (λ v. Contains (b ∷ more) v) (run_one b a e) (cons_first b more))) (λ n. absurd (none_in (Run a) n)) (cons_cases (Run b) (Run a) [] r))
      (Contains-append_cases (map Await awaited) (Run b ∷ []) (Run a) q))
      (Contains-append_cases before (map Await awaited ++ Run b ∷ []) (Run a) k))
      (λ k. inr (cons_rest b a more k))
      (draft_runs (before ++ (map Await awaited ++ Run b ∷ [])) whole more rest a c)

  module _ (programs : List Program) (told : List Bool) where
    signal_of : (a : ℕ) → (get_or told a false ≡ true) ↔ IsAwaited programs l a → SignalOf programs l a (signal told a)
    signal_of a tells = by_test (get_or told a false) refl
      where
        by_test : (b : Bool) → get_or told a false ≡ b → SignalOf programs l a (if b then Signal a ∷ [] else [])
        by_test true e = Told (tells.0 e)
        by_test false e = Untold (λ h. let both : true ≡ false = sym (tells.1 h) ∙ e in cc)

    one_signalled : (before : List Instruction) (awaited : List ℕ) (a : ℕ) → signalled told (before ++ (map Await awaited ++ Run a ∷ [])) ≡ signalled told before ++ (map Await awaited ++ Run a ∷ signal told a)
    one_signalled before awaited a =
        signalled_more told before (map Await awaited ++ Run a ∷ [])
        ∙ ap (λ v. signalled told before ++ v) (signalled_more told (map Await awaited) (Run a ∷ []) ∙ ap (λ v. v ++ signalled told (Run a ∷ [])) (signalled_awaits told awaited)
        ∙ ap (λ v. map Await awaited ++ v) (signalled_run told a [] ∙ ap (λ v. Run a ∷ v) (append_nil (signal told a))))
      where
        append_nil : (xs : List Instruction) → xs ++ [] ≡ xs
        append_nil [] = refl
        append_nil (x ∷ xs) = ap (λ v. x ∷ v) (append_nil xs)

    pub writes : (before whole : List Instruction) (acts : List ℕ) → Drafts p order dealt l before acts whole → ((a : ℕ) → Contains acts a → (get_or told a false ≡ true) ↔ IsAwaited programs l a)
        → Writes p order dealt programs l (signalled told before) acts (signalled told whole)
    writes _ _ _ (Drafted steps) tells = Written (signalled told steps)
    writes _ _ _ (draft.Then before whole a more awaited are rest) tells =
        text.Then (signalled told before) (signalled told whole) (signal told a) a more awaited
        (record {
          ascending = are.ascending;
          those = λ x. (
            λ c. let n = (are.those x).0 c in (n.0, counts_same p order dealt l before (signalled told before) same a x n.0 n.1),
            λ n. (are.those x).1 (n.0, counts_same p order dealt l (signalled told before) before (back p order dealt l before (signalled told before) same) a x n.0 n.1),
          );
        })
        (signal_of a (tells a (cons_first a more)))
        (subst (λ v. Writes p order dealt programs l v more (signalled told whole)) (one_signalled before awaited a)
        (writes (before ++ (map Await awaited ++ Run a ∷ [])) whole more rest (λ b c. tells b (cons_rest a b more c))))
      where
        same : SameAwaits p order dealt l before (signalled told before)
        same x = (awaits_to told before x, awaits_from told before x)

-- ---- all lanes

beyond : (programs : List Program) (m : ℕ) → length programs ≤ m → program_at programs m ≡ []
beyond [] m l = refl
beyond (x ∷ programs) zero l = absurd (omega (arith, l))
beyond (x ∷ programs) (suc m) l = beyond programs m (omega (arith, l))

get_some : (xs : List (Vec Instruction)) (i : ℕ) → i < length xs → (x : Vec Instruction) × (slice_get xs i ≡ Some x)
get_some [] i l = absurd (omega (arith, l))
get_some (x ∷ xs) zero l = (x, refl)
get_some (x ∷ xs) (suc i) l = get_some xs i (omega (arith, l))

module _ (p : Entries) (lanes : ℕ) (order : List ℕ) (dealt : Dealt) (drafts : List (Vec Instruction)) (told : List Bool) (programs : List Program)
    (serial : IsSerial p order) (deals : Deals p lanes [] order dealt)
    (only : (a l m : ℕ) → Contains dealt (a, l) → Contains dealt (a, m) → l ≡ m) (inside : (a l : ℕ) → Contains dealt (a, l) → a < length p.groups)
    (are : AreDrafts p order dealt lanes dealt drafts told) (many : length programs ≡ lanes)
    (each : (l : ℕ) (d : Vec Instruction) → slice_get drafts l ≡ Some d → program_at programs l ≡ signalled told d.items) where
  tells : (l : ℕ) → l < lanes → (a : ℕ) → Contains (on_lane dealt l) a → (get_or told a false ≡ true) ↔ IsAwaited programs l a
  tells l h a on =
      let here = on_contains dealt l a on in
      let is = are.told_is a (inside a l here) in (
        λ t.
            let q = is.0 t in
            let n : q.0 ≢ l = λ e.
            let d = draft_awaits p order dealt q.0 [] q.1.items (on_lane dealt q.0) (are.each q.0 q.1 q.2) a q.3 in
            ⊎_elim (λ c. none_in (Await a) c) (λ r. r.1 (only a r.0 q.0 r.2 (subst (λ v. Contains dealt (a, v)) (sym e) here))) d in
            (q.0, n, subst (λ v. Contains v (Await a)) (sym (each q.0 q.1 q.2)) (awaits_to told q.1.items a q.3)),
        λ w.
            ⊎_elim
            (λ k. let g = are.many in
            let s = get_some drafts w.0 (omega (arith, k, g)) in
            is.1 (w.0, s.0, s.1, awaits_from told s.0.items a (subst (λ v. Contains v (Await a)) (each w.0 s.0 s.1) w.2)))
            (λ k. absurd (none_in (Await a) (subst (λ v. Contains v (Await a)) (beyond programs w.0 (omega (arith, k, many))) w.2)))
            (cases_lt w.0 lanes),
      )

  -- the drafts of all that was dealt, with signals, are the programs
  pub are_programs : ArePrograms p lanes programs
  are_programs =
      record {
        many = many;
        order = order;
        serial = serial;
        dealt = dealt;
        deals = deals;
        each = λ l h.
            let g = are.many in
            let s = get_some drafts l (omega (arith, h, g)) in
            subst (λ v. Writes p order dealt programs l [] (on_lane dealt l) v) (sym (each l s.0 s.1))
            (writes p order dealt l programs told [] s.0.items (on_lane dealt l) (are.each l s.0 s.1) (tells l h));
      }
