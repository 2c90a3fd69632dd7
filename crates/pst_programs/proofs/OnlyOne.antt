-- A plan has one list of programs.
use Rattle.std.proofs.Common.{◌≡◌, ◌≢◌, ◌⊎◌, ℕ, zero, suc, ◌+◌, ◌<◌, ◌≤◌, List, [], ◌∷◌, ◌++◌, length, get_or, take, map, refl, sym, ap, ◌∙◌, subst, inl, inr, ⊎_elim, arith}
use Rattle.std.specs.Prelude.{Contains, zip, ◌↔◌}
use Rattle.std.proofs.lemmas.List.{take_all, take_more}
use Rattle.std.proofs.lemmas.List.Elements.{Contains-append_left, Contains-append_right, Contains-append_cases}
use Rattle.std.proofs.lemmas.Bool.{cases_lt, cases_order}
use Rattle.pst_scen.specs.Plan.{Entries, members}
use Rattle.pst_programs.specs.declared.program.Instruction.{Instruction}
use Rattle.pst_programs.specs.declared.program.Instruction.TheVariants.{Run, Signal, Await}
use Rattle.pst_programs.specs.declared.program.Program.{Program}
use Rattle.pst_programs.specs.Serial.{IsNext, IsSerial}
use Rattle.pst_programs.specs.Lanes.{Dealt, load, on_lane, ComesBefore, AreFewest, Deals, Done}
use Rattle.pst_programs.specs.Lanes as lanes_of
use Rattle.pst_programs.specs.Programs.{program_at, Counts, AreAwaited, IsAwaited, SignalOf, Told, Untold, Writes, Written, ArePrograms}
use Rattle.pst_programs.specs.Programs as text
use Rattle.pst_programs.proofs.Elements.{none_in, cons_cases, cons_first, cons_rest, place_of, contains_or}
use Rattle.pst_programs.proofs.Places.{run_await, signal_await}

-- ---- lists that ascend by one order and have the same elements

module _ (R : ℕ → ℕ → Type 0) (never : (x y : ℕ) → R x y → R y x → ⊥) where
  abbrev Ascends : List ℕ → Type 0
  Ascends xs = (i j : ℕ) → i < j → j < length xs → R (get_or xs i 0) (get_or xs j 0)

  tail_ascends : (x : ℕ) (xs : List ℕ) → Ascends (x ∷ xs) → Ascends xs
  tail_ascends x xs h i j l m = h (suc i) (suc j) (omega (arith, l)) (omega (arith, m))

  first_least : (x : ℕ) (xs : List ℕ) → Ascends (x ∷ xs) → (z : ℕ) → Contains xs z → R x z
  first_least x xs h z c =
      let p = place_of xs z c in
      let k = p.1 in
      subst (λ v. R x v) p.2 (h 0 (suc p.0) (omega arith) (omega (arith, k)))

  pub same_list : (xs ys : List ℕ) → Ascends xs → Ascends ys → ((z : ℕ) → Contains xs z → Contains ys z) → ((z : ℕ) → Contains ys z → Contains xs z) → xs ≡ ys
  same_list [] [] a b f g = refl
  same_list [] (y ∷ ys) a b f g = absurd (none_in y (g y (cons_first y ys)))
  same_list (x ∷ xs) [] a b f g = absurd (none_in x (f x (cons_first x xs)))
  same_list (x ∷ xs) (y ∷ ys) a b f g =
      let e : x ≡ y =
      ⊎_elim (λ q. sym q)
      (λ k. ⊎_elim (λ q. q) (λ m. absurd (never x y (first_least x xs a y m) (first_least y ys b x k))) (cons_cases x y xs (g y (cons_first y ys))))
      (cons_cases y x ys (f x (cons_first x xs))) in
      let t = same_list xs ys (tail_ascends x xs a) (tail_ascends y ys b)
      (λ z c. ⊎_elim (λ q. let r = first_least x xs a z c in absurd (never x x (subst (λ v. R x v) (sym q ∙ sym e) r) (subst (λ v. R x v) (sym q ∙ sym e) r))) (λ k. k) (cons_cases y z ys (f z (cons_rest x z xs c))))
      (λ z c. ⊎_elim (λ q. let r = first_least y ys b z c in absurd (never y y (subst (λ v. R y v) (sym q ∙ e) r) (subst (λ v. R y v) (sym q ∙ e) r))) (λ k. k) (cons_cases x z xs (g z (cons_rest y z ys c)))) in
      λ i. e i ∷ t i

less_never : (x y : ℕ) → x < y → y < x → ⊥
less_never x y l m = omega (arith, l, m)

-- ---- different elements within a list are no more than its length

abbrev Distinct : List ℕ → Type 0
Distinct xs = (i j : ℕ) → i < j → j < length xs → get_or xs i 0 ≢ get_or xs j 0

one_less : (ls : List ℕ) (u : ℕ) → Contains ls u → (rest : List ℕ) × (length ls ≡ suc (length rest)) × ((v : ℕ) → v ≢ u → Contains ls v → Contains rest v)
one_less [] u h = absurd (none_in u h)
one_less (y ∷ ys) u h =
    ⊎_elim (λ e. (ys, refl, λ v n c. ⊎_elim (λ q. absurd (n (sym q ∙ e))) (λ k. k) (cons_cases y v ys c)))
    (λ k. let r = one_less ys u k in
    (y ∷ r.0, ap suc r.1, λ v n c. ⊎_elim (λ q. subst (λ w. Contains (y ∷ r.0) w) q (cons_first y r.0)) (λ m. cons_rest y v r.0 (r.2 v n m)) (cons_cases y v ys c)))
    (cons_cases y u ys h)

no_longer : (us ls : List ℕ) → Distinct us → ((v : ℕ) → Contains us v → Contains ls v) → length us ≤ length ls
no_longer [] ls d f = omega arith
no_longer (u ∷ us) ls d f =
    let r = one_less ls u (f u (cons_first u us)) in
    let l = no_longer us r.0 (λ i j m n. d (suc i) (suc j) (omega (arith, m)) (omega (arith, n)))
    (λ v c. r.2 v
    (λ e. let p = place_of us v c in
    let k = p.1 in
    d 0 (suc p.0) (omega arith) (omega (arith, k)) (sym e ∙ sym p.2))
    (f v (cons_rest u v us c))) in
    let q = r.1 in
    omega (arith, l, q)

-- ---- one order

module _ (p : Entries) where
  same_front : (one other : List ℕ) → IsSerial p one → IsSerial p other → (k : ℕ) → k ≤ length one → k ≤ length other → take k one ≡ take k other
  same_front one other a b zero l m = refl
  same_front one other a b (suc k) l m =
      let before = same_front one other a b k (omega (arith, l)) (omega (arith, m)) in
      let l' : k < length one = omega (arith, l) in
      let m' : k < length other = omega (arith, m) in
      let x = a.each k l' in
      let y : IsNext p (take k one) (get_or other k 0) = subst (λ t. IsNext p t (get_or other k 0)) (sym before) (b.each k m') in
      let le = x.least (get_or other k 0) y.is_open in
      let ge = y.least (get_or one k 0) x.is_open in
      let e : get_or one k 0 ≡ get_or other k 0 = omega (arith, le, ge) in
      let q : suc k ≡ k + 1 = omega arith in
      ap (λ v. take v one) q ∙ take_more one k 0 l' ∙ (λ i. before i ++ e i ∷ []) ∙ sym (take_more other k 0 m') ∙ ap (λ v. take v other) (sym q)

  -- an order goes no further than another
  no_further : (one other : List ℕ) → IsSerial p one → IsSerial p other → length one < length other → ⊥
  no_further one other a b l =
      let f = same_front one other a b (length one) (omega arith) (omega (arith, l)) in
      let e : one ≡ take (length one) other = sym (take_all (length one) one (omega arith)) ∙ f in
      let x = b.each (length one) l in
      let g = get_or other (length one) 0 in
      x.is_open.fresh (subst (λ v. Contains v g) e (subst (λ v. Contains one v) x.is_open.number (a.all g x.is_open.below)))

  pub one_order : (one other : List ℕ) → IsSerial p one → IsSerial p other → one ≡ other
  one_order one other a b =
      let e : length one ≡ length other = ⊎_elim (λ q. q) (λ o. ⊎_elim (λ l. absurd (no_further one other a b l)) (λ l. absurd (no_further other one b a l)) o) (cases_order (length one) (length other)) in
      sym (take_all (length one) one (omega arith)) ∙ same_front one other a b (length one) (omega arith) (omega (arith, e)) ∙ take_all (length one) other (omega (arith, e))

-- ---- one dealing

comes_never : (dealt : Dealt) (l m : ℕ) → ComesBefore dealt l m → ComesBefore dealt m l → ⊥
comes_never dealt l m a b =
    ⊎_elim (λ x. ⊎_elim (λ y. omega (arith, x, y)) (λ y. let e = y.0 in omega (arith, x, e)) b)
    (λ x. let e = x.0 in let h = x.1 in ⊎_elim (λ y. omega (arith, e, y)) (λ y. let k = y.1 in omega (arith, h, k)) b) a

comes_or : (dealt : Dealt) (l m : ℕ) → l ≢ m → ComesBefore dealt l m ⊎ ComesBefore dealt m l
comes_or dealt l m n =
    ⊎_elim (λ e. ⊎_elim (λ q. absurd (n q)) (λ o. ⊎_elim (λ h. inl (inr (e, h))) (λ h. inr (inr (sym e, h))) o) (cases_order l m))
    (λ o. ⊎_elim (λ h. inl (inl h)) (λ h. inr (inl h)) o) (cases_order (load dealt l) (load dealt m))

module _ (lanes : ℕ) (dealt : Dealt) (many : ℕ) (us vs : List ℕ) (a : AreFewest lanes dealt many us) (b : AreFewest lanes dealt many vs) where
  distinct : Distinct vs
  distinct i j h l e = let c = b.ascending i j h l in comes_never dealt (get_or vs i 0) (get_or vs j 0) c (subst (λ v. ComesBefore dealt v (get_or vs i 0)) e (subst (λ v. ComesBefore dealt (get_or vs i 0) v) (sym e) c))

  -- a lane of one list that isn't among the other's comes behind all of these
  inside : (u : ℕ) → Contains us u → Contains vs u
  inside u c = ⊎_elim (λ k. k) (λ n. absurd (too_many n)) (contains_or vs u)
    where
      too_many : (Contains vs u → ⊥) → ⊥
      too_many n =
          let all : (v : ℕ) → Contains vs v → Contains us v = λ v k.
          ⊎_elim (λ h. a.fewest v u (b.below v k) c h) (λ h. absurd (n (b.fewest u v (a.below u c) k h)))
          (comes_or dealt v u (λ e. n (subst (λ w. Contains vs w) e k))) in
          let r = one_less us u c in
          let l = no_longer vs r.0 distinct (λ v k. r.2 v (λ e. n (subst (λ w. Contains vs w) e k)) (all v k)) in
          let x = r.1 in
          let y = a.as_many in
          let z = b.as_many in
          omega (arith, l, x, y, z)

same_lanes : (lanes : ℕ) (dealt : Dealt) (many : ℕ) (us vs : List ℕ) → AreFewest lanes dealt many us → AreFewest lanes dealt many vs → us ≡ vs
same_lanes lanes dealt many us vs a b =
    same_list (ComesBefore dealt) (comes_never dealt) us vs a.ascending b.ascending (inside lanes dealt many us vs a b) (inside lanes dealt many vs us b a)

module _ (p : Entries) (lanes : ℕ) where
  pub one_dealing : (before : Dealt) (order : List ℕ) (one other : Dealt) → Deals p lanes before order one → Deals p lanes before order other → one ≡ other
  one_dealing _ _ _ _ (Done dealt) (Done _) = refl
  one_dealing _ _ _ _ (lanes_of.Then dealt one group more us a d) (lanes_of.Then _ other _ _ vs b e) =
      let q = same_lanes lanes dealt (length (members p.groups group)) us vs a b in
      one_dealing (dealt ++ zip (members p.groups group) us) more one other d (subst (λ v. Deals p lanes (dealt ++ zip (members p.groups group) v) more other) (sym q) e)

-- ---- one writing

module _ (p : Entries) (order : List ℕ) (dealt : Dealt) (l : ℕ) where
  -- the same actions are awaited
  abbrev pub SameAwaits : List Instruction → List Instruction → Type 0
  SameAwaits one other = (x : ℕ) → Contains one (Await x) ↔ Contains other (Await x)

  pub counts_same : (one other : List Instruction) → SameAwaits one other → (a x m : ℕ) → Counts p order dealt one a l x m → Counts p order dealt other a l x m
  counts_same one other same a x m c = record { needs = c.needs; latest = c.latest; new = λ y k d o. c.new y ((same y).1 k) d o }

  pub back : (one other : List Instruction) → SameAwaits one other → SameAwaits other one
  back one other same x = ((same x).1, (same x).0)

  pub one_awaited : (one other : List Instruction) → SameAwaits one other → (a : ℕ) (xs ys : List ℕ) → AreAwaited p order dealt one a l xs → AreAwaited p order dealt other a l ys → xs ≡ ys
  one_awaited one other same a xs ys b c =
      same_list (λ x y. x < y) less_never xs ys b.ascending c.ascending
      (λ z k. let n = (b.those z).0 k in (c.those z).1 (n.0, counts_same one other same a z n.0 n.1))
      (λ z k. let n = (c.those z).0 k in (b.those z).1 (n.0, counts_same other one (back one other same) a z n.0 n.1))

  pub no_await : (programs : List Program) (a : ℕ) (signal : List Instruction) → SignalOf programs l a signal → (x : ℕ) → Contains (Run a ∷ signal) (Await x) → ⊥
  no_await programs a _ (Told h) x c = ⊎_elim (λ e. run_await a x e) (λ k. ⊎_elim (λ e. signal_await a x e) (λ q. none_in (Await x) q) (cons_cases (Signal a) (Await x) [] k)) (cons_cases (Run a) (Await x) (Signal a ∷ []) c)
  no_await programs a _ (Untold h) x c = ⊎_elim (λ e. run_await a x e) (λ k. none_in (Await x) k) (cons_cases (Run a) (Await x) [] c)

  -- an await behind what was written, whatever signal stands there
  pub along : (programs others : List Program) (a : ℕ) (awaited : List ℕ) (one other signal second : List Instruction) → ((x : ℕ) → Contains one (Await x) → Contains other (Await x))
      → SignalOf programs l a signal → SignalOf others l a second → (x : ℕ) → Contains (one ++ (map Await awaited ++ Run a ∷ signal)) (Await x) → Contains (other ++ (map Await awaited ++ Run a ∷ second)) (Await x)
  along programs others a awaited one other signal second h s t x c =
      ⊎_elim (λ k. Contains-append_left other (map Await awaited ++ Run a ∷ second) (Await x) (h x k))
      (λ k. ⊎_elim (λ q. Contains-append_right other (map Await awaited ++ Run a ∷ second) (Await x) (Contains-append_left (map Await awaited) (Run a ∷ second) (Await x) q))
      (λ q. absurd (no_await programs a signal s x q)) (Contains-append_cases (map Await awaited) (Run a ∷ signal) (Await x) k))
      (Contains-append_cases one (map Await awaited ++ Run a ∷ signal) (Await x) c)

  same_awaits : (programs others : List Program) (one other first second : List Instruction) (acts : List ℕ) → SameAwaits one other
      → Writes p order dealt programs l one acts first → Writes p order dealt others l other acts second → SameAwaits first second
  same_awaits programs others _ _ _ _ _ same (Written one) (Written other) = same
  same_awaits programs others _ _ _ _ _ same (text.Then one first signal a more xs b s w) (text.Then other second mark _ _ ys c t v) =
      let q = one_awaited one other same a xs ys b c in
      same_awaits programs others (one ++ (map Await xs ++ Run a ∷ signal)) (other ++ (map Await xs ++ Run a ∷ mark)) first second more
      (λ x. (along programs others a xs one other signal mark (λ y k. (same y).0 k) s t x, along others programs a xs other one mark signal (λ y k. (same y).1 k) t s x))
      w (subst (λ zs. Writes p order dealt others l (other ++ (map Await zs ++ Run a ∷ mark)) more second) (sym q) v)

  one_signal : (programs others : List Program) → ((a : ℕ) → IsAwaited programs l a ↔ IsAwaited others l a) → (a : ℕ) (signal mark : List Instruction) → SignalOf programs l a signal → SignalOf others l a mark → signal ≡ mark
  one_signal programs others same a _ _ (Told h) (Told k) = refl
  one_signal programs others same a _ _ (Told h) (Untold n) = absurd (n ((same a).0 h))
  one_signal programs others same a _ _ (Untold n) (Told k) = absurd (n ((same a).1 k))
  one_signal programs others same a _ _ (Untold n) (Untold m) = refl

  one_writing : (programs others : List Program) → ((a : ℕ) → IsAwaited programs l a ↔ IsAwaited others l a) → (before first second : List Instruction) (acts : List ℕ)
      → Writes p order dealt programs l before acts first → Writes p order dealt others l before acts second → first ≡ second
  one_writing programs others same _ _ _ _ (Written steps) (Written _) = refl
  one_writing programs others same _ _ _ _ (text.Then before first signal a more xs b s w) (text.Then _ second mark _ _ ys c t v) =
      let q = one_awaited before before (λ x. (λ k. k, λ k. k)) a xs ys b c in
      let r = one_signal programs others same a signal mark s t in
      one_writing programs others same (before ++ (map Await xs ++ Run a ∷ signal)) first second more w
      (subst (λ zs. Writes p order dealt others l (before ++ (map Await xs ++ Run a ∷ zs)) more second) (sym r) (subst (λ zs. Writes p order dealt others l (before ++ (map Await zs ++ Run a ∷ mark)) more second) (sym q) v))

-- ---- one list of programs

same_programs : (one other : List Program) → length one ≡ length other → ((l : ℕ) → l < length one → program_at one l ≡ program_at other l) → one ≡ other
same_programs [] [] e h = refl
same_programs [] (x ∷ other) e h = absurd (omega (arith, e))
same_programs (x ∷ one) [] e h = absurd (omega (arith, e))
same_programs (x ∷ one) (y ∷ other) e h =
    let t = same_programs one other (omega (arith, e)) (λ l k. h (suc l) (omega (arith, k))) in
    let s : x.steps ≡ y.steps = h 0 (omega arith) in
    λ i. record { steps = s i } ∷ t i

beyond : (programs : List Program) (m : ℕ) → length programs ≤ m → program_at programs m ≡ []
beyond [] m l = refl
beyond (x ∷ programs) zero l = absurd (omega (arith, l))
beyond (x ∷ programs) (suc m) l = beyond programs m (omega (arith, l))

module _ (p : Entries) (lanes : ℕ) (one other : List Program) (a : ArePrograms p lanes one) (b : ArePrograms p lanes other) where
  -- the other's programs, by the order and the dealing of the one
  by_same : (l : ℕ) → l < lanes → Writes p a.order a.dealt other l [] (on_lane a.dealt l) (program_at other l)
  by_same l h =
      let e = one_order p b.order a.order b.serial a.serial in
      let d = one_dealing p lanes [] a.order b.dealt a.dealt (subst (λ v. Deals p lanes [] v b.dealt) e b.deals) a.deals in
      subst (λ v. Writes p a.order v other l [] (on_lane v l) (program_at other l)) d (subst (λ v. Writes p v b.dealt other l [] (on_lane b.dealt l) (program_at other l)) e (b.each l h))

  awaits_at : (m x : ℕ) → Contains (program_at one m) (Await x) ↔ Contains (program_at other m) (Await x)
  awaits_at m x =
      ⊎_elim
      (λ h. same_awaits p a.order a.dealt m one other [] [] (program_at one m) (program_at other m) (on_lane a.dealt m) (λ y. (λ k. k, λ k. k)) (a.each m h) (by_same m h) x)
      (λ h. let c = a.many in let d = b.many in (
        λ k. absurd (none_in (Await x) (subst (λ v. Contains v (Await x)) (beyond one m (omega (arith, h, c))) k)),
        λ k. absurd (none_in (Await x) (subst (λ v. Contains v (Await x)) (beyond other m (omega (arith, h, d))) k)),
      ))
      (cases_lt m lanes)

  pub one_programs : one ≡ other
  one_programs =
      let c = a.many in
      let d = b.many in
      same_programs one other (c ∙ sym d)
      (λ l h. let k : l < lanes = omega (arith, h, c) in
      one_writing p a.order a.dealt l one other
      (λ x. (λ q. (q.0, q.1, (awaits_at q.0 x).0 q.2), λ q. (q.0, q.1, (awaits_at q.0 x).1 q.2)))
      [] (program_at one l) (program_at other l) (on_lane a.dealt l) (a.each l k) (by_same l k))
