-- Places of lanes, and lanes of members.
use Rattle.std.proofs.Common.{◌≡◌, ◌⊎◌, ℕ, zero, suc, ◌<◌, ◌≤◌, List, [], ◌∷◌, length, get_or, replicate, slice_get, Some, None, Bool, true, false, refl, sym, ap, ◌∙◌, subst, inl, inr, ⊎_elim, arith}
use Rattle.std.specs.Prelude.{Contains}
use Rattle.std.proofs.lemmas.Bool.{cases_eq}
use Rattle.pst_scen.specs.declared.event.Event.TheVariants.{Start}
use Rattle.pst_scen.specs.Trace.{StartsOn, starts_of}
use Rattle.pst_programs.specs.declared.program.Instruction.{Instruction}
use Rattle.pst_programs.specs.declared.program.Instruction.TheVariants.{Run, Signal, Await}
use Rattle.pst_programs.specs.declared.program.Program.{Program}
use Rattle.pst_programs.specs.Programs.{program_at}
use Rattle.pst_programs.specs.Machine.{moved_on, IsAt, AreAt}
use Rattle.pst_programs.specs.Safe.{Stands}
use Rattle.pst_programs.proofs.Elements.{none_in, cons_cases, cons_first, cons_rest}

-- ---- one thing at one place

pub some_one : {X : Type 0} (x y : X) → Some x ≡ Some y → x ≡ y
some_one x y e = cc e

pub none_some : {X : Type 0} (x : X) → None ≡ Some x → ⊥
none_some x e = cc e

pub stands_one : (programs : List Program) (l k : ℕ) (x y : Instruction) → Stands programs l k x → Stands programs l k y → x ≡ y
stands_one programs l k x y p q = some_one x y (sym p ∙ q)

pub run_one : (a b : ℕ) → Run a ≡ Run b → a ≡ b
run_one a b e = cc e

pub signal_one : (a b : ℕ) → Signal a ≡ Signal b → a ≡ b
signal_one a b e = cc e

pub run_signal : (a b : ℕ) → Run a ≡ Signal b → ⊥
run_signal a b e = cc e

pub run_await : (a b : ℕ) → Run a ≡ Await b → ⊥
run_await a b e = cc e

pub signal_await : (a b : ℕ) → Signal a ≡ Await b → ⊥
signal_await a b e = cc e

-- what stands in a program stands on a lane that there is
pub lane_in : (programs : List Program) (l k : ℕ) (x : Instruction) → Stands programs l k x → l < length programs
lane_in [] l k x e = absurd (none_some x e)
lane_in (p ∷ ps) zero k x e = omega arith
lane_in (p ∷ ps) (suc l) k x e = let r = lane_in ps l k x e in omega (arith, r)

get_some : {X : Type 0} (xs : List X) (k : ℕ) → k < length xs → (x : X) × (slice_get xs k ≡ Some x)
get_some [] k l = absurd (omega (arith, l))
get_some (x ∷ xs) zero l = (x, refl)
get_some (x ∷ xs) (suc k) l = get_some xs k (omega (arith, l))

get_in : {X : Type 0} (xs : List X) (k : ℕ) (x : X) → slice_get xs k ≡ Some x → k < length xs
get_in [] k x e = absurd (none_some x e)
get_in (y ∷ ys) zero x e = omega arith
get_in (y ∷ ys) (suc k) x e = let r = get_in ys k x e in omega (arith, r)

pub stands_some : (programs : List Program) (l k : ℕ) → k < length (program_at programs l) → (x : Instruction) × Stands programs l k x
stands_some programs l k h = get_some (program_at programs l) k h

pub stands_in : (programs : List Program) (l k : ℕ) (x : Instruction) → Stands programs l k x → k < length (program_at programs l)
stands_in programs l k x e = get_in (program_at programs l) k x e

-- ---- places

pub many_moved : (places : List ℕ) (l : ℕ) → length (moved_on places l) ≡ length places
many_moved [] l = refl
many_moved (p ∷ ps) zero = refl
many_moved (p ∷ ps) (suc l) = ap suc (many_moved ps l)

pub moved_here : (places : List ℕ) (l : ℕ) → l < length places → get_or (moved_on places l) l 0 ≡ suc (get_or places l 0)
moved_here [] l h = absurd (omega (arith, h))
moved_here (p ∷ ps) zero h = refl
moved_here (p ∷ ps) (suc l) h = moved_here ps l (omega (arith, h))

pub moved_there : (places : List ℕ) (l m : ℕ) → (m ≡ l → ⊥) → get_or (moved_on places l) m 0 ≡ get_or places m 0
moved_there [] l m n = refl
moved_there (p ∷ ps) zero zero n = absurd (n refl)
moved_there (p ∷ ps) zero (suc m) n = refl
moved_there (p ∷ ps) (suc l) zero n = refl
moved_there (p ∷ ps) (suc l) (suc m) n = moved_there ps l m (λ e. n (ap suc e))

pub no_less : (places : List ℕ) (l m : ℕ) → get_or places m 0 ≤ get_or (moved_on places l) m 0
no_less [] l m = omega arith
no_less (p ∷ ps) zero zero = omega arith
no_less (p ∷ ps) zero (suc m) = omega arith
no_less (p ∷ ps) (suc l) zero = omega arith
no_less (p ∷ ps) (suc l) (suc m) = no_less ps l m

-- what lies behind after a move lay behind before, or is what the lane stood at
pub passed_cases : (places : List ℕ) (l m k : ℕ) → l < length places → k < get_or (moved_on places l) m 0 → (k < get_or places m 0) ⊎ ((m ≡ l) × (k ≡ get_or places l 0))
passed_cases places l m k h q =
    ⊎_elim
    (λ e. let q' : k < get_or (moved_on places l) l 0 = subst (λ v. k < get_or (moved_on places l) v 0) e q in
    let w = moved_here places l h in
    ⊎_elim (λ f. inr (e, f)) (λ n. inl (subst (λ v. k < get_or places v 0) (sym e) (omega (arith, q', w, n)))) (cases_eq k (get_or places l 0)))
    (λ n. inl (subst (λ v. k < v) (moved_there places l m n) q))
    (cases_eq m l)

abbrev zeros : ℕ → List ℕ
zeros n = replicate n 0

pub first_place : (n l : ℕ) → get_or (zeros n) l 0 ≡ 0
first_place zero l = refl
first_place (suc n) zero = refl
first_place (suc n) (suc l) = first_place n l

pub many_first : (n : ℕ) → length (zeros n) ≡ n
many_first zero = refl
many_first (suc n) = ap suc (many_first n)

-- ---- members and their lanes

module _ (programs : List Program) (places : List ℕ) where
  pub as_many : (ms us : List ℕ) → AreAt programs places ms us → length us ≡ length ms
  as_many [] [] h = refl
  as_many [] (u ∷ us) h = absurd h
  as_many (m ∷ ms) [] h = absurd h
  as_many (m ∷ ms) (u ∷ us) h = ap suc (as_many ms us h.1)

  pub at_each : (ms us : List ℕ) → AreAt programs places ms us → (i : ℕ) → i < length ms → IsAt programs places (get_or us i 0) (Run (get_or ms i 0))
  at_each [] us h i l = absurd (omega (arith, l))
  at_each (m ∷ ms) [] h i l = absurd h
  at_each (m ∷ ms) (u ∷ us) h zero l = h.0
  at_each (m ∷ ms) (u ∷ us) h (suc i) l = at_each ms us h.1 i (omega (arith, l))

  -- at a member's `Run` stands a lane
  pub of_member : (ms us : List ℕ) → AreAt programs places ms us → (a : ℕ) → Contains ms a → (u : ℕ) × IsAt programs places u (Run a)
  of_member [] us h a c = absurd (none_in a c)
  of_member (m ∷ ms) [] h a c = absurd h
  of_member (m ∷ ms) (u ∷ us) h a c = ⊎_elim (λ e. (u, subst (λ v. IsAt programs places u (Run v)) e h.0)) (λ k. of_member ms us h.1 a k) (cons_cases m a ms c)

  -- and each of the lanes at a member's
  pub of_lane : (ms us : List ℕ) → AreAt programs places ms us → (u : ℕ) → Contains us u → (a : ℕ) × Contains ms a × IsAt programs places u (Run a)
  of_lane [] [] h u c = absurd (none_in u c)
  of_lane [] (v ∷ us) h u c = absurd h
  of_lane (m ∷ ms) [] h u c = absurd h
  of_lane (m ∷ ms) (v ∷ us) h u c =
      ⊎_elim (λ e. (m, cons_first m ms, subst (λ w. IsAt programs places w (Run m)) e h.0))
      (λ k. let r = of_lane ms us h.1 u k in (r.0, cons_rest m r.0 ms r.1, r.2)) (cons_cases v u us c)

  same_start : (m l a k : ℕ) (p q : Bool) → Start m l p ≡ Start a k q → (m ≡ a) × (l ≡ k)
  same_start m l a k p q e = (cc, cc)

  -- what starts in the block starts on the lane at its `Run`
  pub starts_at : (ms us : List ℕ) → AreAt programs places ms us → (a u : ℕ) → StartsOn (starts_of ms us) a u → IsAt programs places u (Run a)
  starts_at [] us h a u c = absurd (none_in (Start a u c.0) c.1)
  starts_at (m ∷ ms) [] h a u c = absurd h
  starts_at (m ∷ []) (v ∷ us) h a u c =
      ⊎_elim (λ e. let r = same_start m v a u false c.0 e in subst (λ w. IsAt programs places w (Run a)) r.1 (subst (λ w. IsAt programs places v (Run w)) r.0 h.0))
      (λ k. absurd (none_in (Start a u c.0) k)) (cons_cases (Start m v false) (Start a u c.0) [] c.1)
  starts_at (m ∷ n ∷ ms) (v ∷ us) h a u c =
      ⊎_elim (λ e. let r = same_start m v a u true c.0 e in subst (λ w. IsAt programs places w (Run a)) r.1 (subst (λ w. IsAt programs places v (Run w)) r.0 h.0))
      (λ k. starts_at (n ∷ ms) us h.1 a u (c.0, k)) (cons_cases (Start m v true) (Start a u c.0) (starts_of (n ∷ ms) us) c.1)
