-- What stands in a lane's program.
use Rattle.std.proofs.Common.{◌≡◌, ◌⊎◌, ℕ, zero, suc, ◌+◌, ◌<◌, List, [], ◌∷◌, ◌++◌, length, map, slice_get, Some, refl, sym, ap, subst, inl, inr, ⊎_elim, arith}
use Rattle.std.specs.Prelude.{Contains}
use Rattle.std.proofs.lemmas.List.Elements.{Contains-append_cases}
use Rattle.std.proofs.lemmas.Bool.{cases_order}
use Rattle.pst_programs.specs.declared.program.Instruction.{Instruction}
use Rattle.pst_programs.specs.declared.program.Instruction.TheVariants.{Run, Signal, Await}
use Rattle.pst_programs.proofs.Elements.{none_in, cons_cases, cons_first, cons_rest}
use Rattle.pst_programs.proofs.Places.{some_one, none_some, run_signal, run_await, signal_await}
use Rattle.pst_programs.proofs.Dealing.{Rising}

-- ---- places in lists

pub get_at : {X : Type 0} (xs ys : List X) (y : X) → slice_get (xs ++ y ∷ ys) (length xs) ≡ Some y
get_at [] ys y = refl
get_at (x ∷ xs) ys y = get_at xs ys y

pub get_left : {X : Type 0} (xs ys : List X) (k : ℕ) (x : X) → slice_get xs k ≡ Some x → slice_get (xs ++ ys) k ≡ Some x
get_left [] ys k x e = absurd (none_some x e)
get_left (y ∷ xs) ys zero x e = e
get_left (y ∷ xs) ys (suc k) x e = get_left xs ys k x e

pub get_below : {X : Type 0} (xs : List X) (k : ℕ) (x : X) → slice_get xs k ≡ Some x → k < length xs
get_below [] k x e = absurd (none_some x e)
get_below (y ∷ xs) zero x e = omega arith
get_below (y ∷ xs) (suc k) x e = let r = get_below xs k x e in omega (arith, r)

pub get_of : {X : Type 0} (xs : List X) (x : X) → Contains xs x → (k : ℕ) × (slice_get xs k ≡ Some x)
get_of [] x c = absurd (none_in x c)
get_of (y ∷ xs) x c = ⊎_elim (λ e. (0, ap Some e)) (λ k. let r = get_of xs x k in (suc r.0, r.1)) (cons_cases y x xs c)

pub of_get : {X : Type 0} (xs : List X) (k : ℕ) (x : X) → slice_get xs k ≡ Some x → Contains xs x
of_get [] k x e = absurd (none_some x e)
of_get (y ∷ xs) zero x e = subst (λ v. Contains (y ∷ xs) v) (some_one y x e) (cons_first y xs)
of_get (y ∷ xs) (suc k) x e = cons_rest y x xs (of_get xs k x e)

pub of_awaits : (xs : List ℕ) (i : Instruction) → Contains (map Await xs) i → (x : ℕ) × (i ≡ Await x) × Contains xs x
of_awaits [] i c = absurd (none_in i c)
of_awaits (x ∷ xs) i c = ⊎_elim (λ e. (x, sym e, cons_first x xs)) (λ k. let r = of_awaits xs i k in (r.0, r.1, cons_rest x r.0 xs r.2)) (cons_cases (Await x) i (map Await xs) c)

pub to_awaits : (xs : List ℕ) (x : ℕ) → Contains xs x → Contains (map Await xs) (Await x)
to_awaits [] x c = absurd (none_in x c)
to_awaits (y ∷ xs) x c = ⊎_elim (λ e. subst (λ v. Contains (Await y ∷ map Await xs) (Await v)) e (cons_first (Await y) (map Await xs))) (λ k. cons_rest (Await y) (Await x) (map Await xs) (to_awaits xs x k)) (cons_cases y x xs c)

-- ---- what runs

abbrev pub runs : List Instruction → List ℕ
runs [] = []
runs (Run a ∷ more) = a ∷ runs more
runs (Signal a ∷ more) = runs more
runs (Await a ∷ more) = runs more

pub runs_more : (xs ys : List Instruction) → runs (xs ++ ys) ≡ runs xs ++ runs ys
runs_more [] ys = refl
runs_more (Run a ∷ xs) ys = ap (λ v. a ∷ v) (runs_more xs ys)
runs_more (Signal a ∷ xs) ys = runs_more xs ys
runs_more (Await a ∷ xs) ys = runs_more xs ys

pub runs_awaits : (xs : List ℕ) → runs (map Await xs) ≡ []
runs_awaits [] = refl
runs_awaits (x ∷ xs) = runs_awaits xs

pub runs_get : (xs : List Instruction) (k a : ℕ) → slice_get xs k ≡ Some (Run a) → Contains (runs xs) a
runs_get [] k a e = absurd (none_some (Run a) e)
runs_get (Run b ∷ xs) zero a e = subst (λ v. Contains (b ∷ runs xs) v) (run_is b a (some_one (Run b) (Run a) e)) (cons_first b (runs xs))
  where
    run_is : (b a : ℕ) → Run b ≡ Run a → b ≡ a
    run_is b a e = cc e
runs_get (Run b ∷ xs) (suc k) a e = cons_rest b a (runs xs) (runs_get xs k a e)
runs_get (Signal b ∷ xs) zero a e = absurd (run_signal a b (sym (some_one (Signal b) (Run a) e)))
runs_get (Signal b ∷ xs) (suc k) a e = runs_get xs k a e
runs_get (Await b ∷ xs) zero a e = absurd (run_await a b (sym (some_one (Await b) (Run a) e)))
runs_get (Await b ∷ xs) (suc k) a e = runs_get xs k a e

module _ (f : ℕ → ℕ) where
  -- along a program whose actions rise, so do its `Run`s
  pub runs_rise : (xs : List Instruction) → Rising f (runs xs) → (a b j k : ℕ) → slice_get xs j ≡ Some (Run a) → slice_get xs k ≡ Some (Run b) → j < k → f a < f b
  runs_rise [] r a b j k x y h = absurd (none_some (Run a) x)
  runs_rise (i ∷ xs) r a b j zero x y h = absurd (omega (arith, h))
  runs_rise (Run c ∷ xs) r a b zero (suc k) x y h = subst (λ v. f v < f b) (run_is c a (some_one (Run c) (Run a) x)) (r.0 b (runs_get xs k b y))
    where
      run_is : (c a : ℕ) → Run c ≡ Run a → c ≡ a
      run_is c a e = cc e
  runs_rise (Run c ∷ xs) r a b (suc j) (suc k) x y h = runs_rise xs r.1 a b j k x y (omega (arith, h))
  runs_rise (Signal c ∷ xs) r a b zero (suc k) x y h = absurd (run_signal a c (sym (some_one (Signal c) (Run a) x)))
  runs_rise (Signal c ∷ xs) r a b (suc j) (suc k) x y h = runs_rise xs r a b j k x y (omega (arith, h))
  runs_rise (Await c ∷ xs) r a b zero (suc k) x y h = absurd (run_await a c (sym (some_one (Await c) (Run a) x)))
  runs_rise (Await c ∷ xs) r a b (suc j) (suc k) x y h = runs_rise xs r a b j k x y (omega (arith, h))

  pub runs_once : (xs : List Instruction) → Rising f (runs xs) → (a j k : ℕ) → slice_get xs j ≡ Some (Run a) → slice_get xs k ≡ Some (Run a) → j ≡ k
  runs_once xs r a j k x y =
      ⊎_elim (λ e. e) (λ o. ⊎_elim (λ h. let q = runs_rise xs r a a j k x y h in absurd (omega (arith, q))) (λ h. let q = runs_rise xs r a a k j y x h in absurd (omega (arith, q))) o) (cases_order j k)

  -- what is awaited is of a lesser rank than all that runs behind
  abbrev pub Back : List Instruction → Type 0
  Back [] = Unit {0}
  Back (Run a ∷ more) = Back more
  Back (Signal a ∷ more) = Back more
  Back (Await x ∷ more) = ((b : ℕ) → Contains (runs more) b → f x < f b) × Back more

  pub back_more : (xs ys : List Instruction) → Back xs → Back ys → ((x b : ℕ) → Contains xs (Await x) → Contains (runs ys) b → f x < f b) → Back (xs ++ ys)
  back_more [] ys p q h = q
  back_more (Run a ∷ xs) ys p q h = back_more xs ys p q (λ x b c k. h x b (cons_rest (Run a) (Await x) xs c) k)
  back_more (Signal a ∷ xs) ys p q h = back_more xs ys p q (λ x b c k. h x b (cons_rest (Signal a) (Await x) xs c) k)
  back_more (Await a ∷ xs) ys p q h =
      (λ b c. ⊎_elim (λ k. p.0 b k) (λ k. h a b (cons_first (Await a) xs) k) (Contains-append_cases (runs xs) (runs ys) b (subst (λ v. Contains v b) (runs_more xs ys) c)), back_more xs ys p.1 q (λ x b c k. h x b (cons_rest (Await a) (Await x) xs c) k))

  pub back_get : (xs : List Instruction) → Back xs → (x b j k : ℕ) → slice_get xs j ≡ Some (Await x) → slice_get xs k ≡ Some (Run b) → j < k → f x < f b
  back_get [] r x b j k p q h = absurd (none_some (Await x) p)
  back_get (i ∷ xs) r x b j zero p q h = absurd (omega (arith, h))
  back_get (Run c ∷ xs) r x b zero (suc k) p q h = absurd (run_await c x (some_one (Run c) (Await x) p))
  back_get (Run c ∷ xs) r x b (suc j) (suc k) p q h = back_get xs r x b j k p q (omega (arith, h))
  back_get (Signal c ∷ xs) r x b zero (suc k) p q h = absurd (signal_await c x (some_one (Signal c) (Await x) p))
  back_get (Signal c ∷ xs) r x b (suc j) (suc k) p q h = back_get xs r x b j k p q (omega (arith, h))
  back_get (Await c ∷ xs) r x b zero (suc k) p q h = subst (λ v. f v < f b) (await_is c x (some_one (Await c) (Await x) p)) (r.0 b (runs_get xs k b q))
    where
      await_is : (c x : ℕ) → Await c ≡ Await x → c ≡ x
      await_is c x e = cc e
  back_get (Await c ∷ xs) r x b (suc j) (suc k) p q h = back_get xs r.1 x b j k p q (omega (arith, h))

-- ---- signals stand right behind their `Run`s

abbrev pub Told : List Instruction → Type 0
Told xs = (x k : ℕ) → slice_get xs k ≡ Some (Signal x) → (j : ℕ) × (suc j ≡ k) × (slice_get xs j ≡ Some (Run x))

get_cases : {X : Type 0} (xs ys : List X) (k : ℕ) (x : X) → slice_get (xs ++ ys) k ≡ Some x → (slice_get xs k ≡ Some x) ⊎ ((i : ℕ) × (k ≡ length xs + i) × (slice_get ys i ≡ Some x))
get_cases [] ys k x e = inr (k, omega arith, e)
get_cases (y ∷ xs) ys zero x e = inl e
get_cases (y ∷ xs) ys (suc k) x e = ⊎_elim (λ q. inl q) (λ q. let l = q.1 in inr (q.0, omega (arith, l), q.2)) (get_cases xs ys k x e)

get_right : {X : Type 0} (xs ys : List X) (i : ℕ) (x : X) → slice_get ys i ≡ Some x → slice_get (xs ++ ys) (length xs + i) ≡ Some x
get_right [] ys i x e = let z : i ≡ 0 + i = omega arith in subst (λ v. slice_get ys v ≡ Some x) z e
get_right (y ∷ xs) ys i x e = let z : suc (length xs + i) ≡ suc (length xs) + i = omega arith in subst (λ v. slice_get (y ∷ xs ++ ys) v ≡ Some x) z (get_right xs ys i x e)

pub told_more : (xs ys : List Instruction) → Told xs → Told ys → Told (xs ++ ys)
told_more xs ys p q x k e =
    ⊎_elim (λ h. let r = p x k h in (r.0, r.1, get_left xs ys r.0 (Run x) r.2))
    (λ h. let r = q x h.0 h.2 in let a = h.1 in let b = r.1 in (length xs + r.0, omega (arith, a, b), get_right xs ys r.0 (Run x) r.2))
    (get_cases xs ys k (Signal x) e)

pub told_awaits : (xs : List ℕ) → Told (map Await xs)
told_awaits xs x k e = let r = of_awaits xs (Signal x) (of_get (map Await xs) k (Signal x) e) in absurd (signal_await x r.0 r.1)
