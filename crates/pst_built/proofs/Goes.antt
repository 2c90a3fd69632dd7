-- How reading goes on with a longer list of choices: from what it came to, by a place's next reader.
use Rattle.std.proofs.Common.{◌≡◌, ℕ, ◌+◌, ◌<◌, ◌≤◌, List, [], ◌∷◌, ◌++◌, Bool, true, false, nat_lt, if◌then◌else◌, refl, ap, ◌∙◌, arith}
use Rattle.std.proofs.Math.Nat.{mod-lt}
use Rattle.std.proofs.lemmas.Bool.{le-ltb, ltb-false, ltb-true}
use Rattle.pst_scen.specs.declared.scenario.Scenario.{Scenario}
pub use Rattle.pst_built.specs.Goes.{Stands, Place, After, Goes}
use Rattle.pst_legal.specs.Reading.{Reading, Wants, Stops, Reads, Reader, then_read, option_at, read_place}

pub stands : (R : Scenario → Scenario → Type 0) (s : Scenario) (r : Reading) (go : List ℕ → Reading) → After R s r go → Stands R s r
stands R s (Wants t n) go after = after.0
stands R s Stops go after = tt
stands R s (Reads t place left) go after = after.0

stands_if : (R : Scenario → Scenario → Type 0) (s : Scenario) (b : Bool) (r : Reading) → (b ≡ true → Stands R s r) → Stands R s (if b then r else Stops)
stands_if R s true r h = h refl
stands_if R s false r h = tt

after_if : (R : Scenario → Scenario → Type 0) (s : Scenario) (b : Bool) (r : Reading) (go : List ℕ → Reading) → (b ≡ true → After R s r go)
    → After R s (if b then r else Stops) (λ more. if b then go more else Stops)
after_if R s true r go h = h refl
after_if R s false r go h = λ more. refl

none_of_none : (start n : ℕ) (next : ℕ → Reader) (s : Scenario) (place : ℕ) → nat_lt 0 n ≡ false → (more : List ℕ) → read_place start n next s place more ≡ Stops
none_of_none start n next s place none [] = ap (λ b. if b then Wants s n else Stops) none
none_of_none start n next s place none (y ∷ ys) =
    let few : n ≤ y = (let l : n ≤ 0 = ltb-false 0 n none in omega arith) in
    ap (λ b. if b then next (option_at start n y) s (place + 1) ys else Stops) (le-ltb y n few)

at_none : (R : Scenario → Scenario → Type 0) (s : Scenario) (start n place : ℕ) (next : ℕ → Reader) (b : Bool) → nat_lt 0 n ≡ b → R s s
    → ((k p : ℕ) (ds : List ℕ) → k < n → Stands R s (next k s p ds))
    → After R s (if b then Wants s n else Stops) (λ more. read_place start n next s place more)
at_none R s start n place next true is same on = (same, record { some = ltb-true 0 n is; start = start; place = place; next = next; is = λ more. refl; on = on })
at_none R s start n place next false is same on = none_of_none start n next s place is

pub option_is : (start n digit : ℕ) → digit < n → option_at start n digit < n
option_is start n digit below = let some : 0 < n = omega arith in mod-lt (start + digit) some

pub place_stands_at : (R : Scenario → Scenario → Type 0) (s : Scenario) (start n place : ℕ) (next : ℕ → Reader) (ds : List ℕ) → R s s
    → ((k d : ℕ) (rest : List ℕ) → k < n → ds ≡ d ∷ rest → Stands R s (next k s (place + 1) rest)) → Stands R s (read_place start n next s place ds)
place_stands_at R s start n place next [] same on = stands_if R s (nat_lt 0 n) (Wants s n) (λ e. same)
place_stands_at R s start n place next (d ∷ ds) same on =
    stands_if R s (nat_lt d n) (next (option_at start n d) s (place + 1) ds) (λ e. on (option_at start n d) d ds (option_is start n d (ltb-true d n e)) refl)

-- a place, where the options go on with what is left
pub goes_place : (R : Scenario → Scenario → Type 0) (s : Scenario) (start n place : ℕ) (next : ℕ → Reader) (ds : List ℕ) → R s s
    → ((k p : ℕ) (rest : List ℕ) → k < n → Stands R s (next k s p rest))
    → ((k d : ℕ) (rest : List ℕ) → k < n → ds ≡ d ∷ rest → Goes R s (next k) (place + 1) rest) → Goes R s (read_place start n next) place ds
goes_place R s start n place next [] same on each = at_none R s start n place next (nat_lt 0 n) refl same on
goes_place R s start n place next (d ∷ ds) same on each =
    after_if R s (nat_lt d n) (next (option_at start n d) s (place + 1) ds) (λ more. next (option_at start n d) s (place + 1) (ds ++ more))
    (λ e. each (option_at start n d) d ds (option_is start n d (ltb-true d n e)) refl)

-- where each option goes on whatever is left
pub goes_always : (R : Scenario → Scenario → Type 0) (s : Scenario) (start n place : ℕ) (next : ℕ → Reader) (ds : List ℕ) → R s s
    → ((k p : ℕ) (rest : List ℕ) → k < n → Goes R s (next k) p rest) → Goes R s (read_place start n next) place ds
goes_always R s start n place next ds same each =
    goes_place R s start n place next ds same
    (λ k p rest l. stands R s (next k s p rest) (λ more. next k s p (rest ++ more)) (each k p rest l))
    (λ k d rest l e. each k (place + 1) rest l)

pub same_go : (R : Scenario → Scenario → Type 0) (s : Scenario) (r : Reading) (go other : List ℕ → Reading) → ((more : List ℕ) → other more ≡ go more) → After R s r go → After R s r other
same_go R s (Wants t n) go other same after =
    (after.0, record { some = after.1.some; start = after.1.start; place = after.1.place; next = after.1.next; is = λ more. same more ∙ after.1.is more; on = after.1.on })
same_go R s Stops go other same after = λ more. same more ∙ after more
same_go R s (Reads t p left) go other same after = (after.0, λ more. same more ∙ after.1 more)

-- ---- one reader after another

then_place : (start n : ℕ) (next : ℕ → Reader) (g : Reader) (s : Scenario) (place : ℕ) (ds : List ℕ)
    → then_read (read_place start n next s place ds) g ≡ read_place start n (λ k t p rest. then_read (next k t p rest) g) s place ds
then_place start n next g s place [] = by_test (nat_lt 0 n)
  where
    by_test : (b : Bool) → then_read (if b then Wants s n else Stops) g ≡ (if b then Wants s n else Stops)
    by_test true = refl
    by_test false = refl
then_place start n next g s place (d ∷ ds) = by_test (nat_lt d n)
  where
    by_test : (b : Bool) → then_read (if b then next (option_at start n d) s (place + 1) ds else Stops) g ≡ (if b then then_read (next (option_at start n d) s (place + 1) ds) g else Stops)
    by_test true = refl
    by_test false = refl

module _ (R : Scenario → Scenario → Type 0) (both : (s t u : Scenario) → R s t → R t u → R s u) where
  pub stands_on : (s t : Scenario) (r : Reading) → R s t → Stands R t r → Stands R s r
  stands_on s t (Wants u n) one other = both s t u one other
  stands_on s t Stops one other = tt
  stands_on s t (Reads u p left) one other = both s t u one other

  pub after_on : (s t : Scenario) (r : Reading) (go : List ℕ → Reading) → R s t → After R t r go → After R s r go
  after_on s t (Wants u n) go one other = (both s t u one other.0, other.1)
  after_on s t Stops go one other = other
  after_on s t (Reads u p left) go one other = (both s t u one other.0, other.1)

  stands_then : (s : Scenario) (r : Reading) (g : Reader) → Stands R s r → ((t : Scenario) (p : ℕ) (ds : List ℕ) → R s t → Stands R t (g t p ds)) → Stands R s (then_read r g)
  stands_then s (Wants t n) g one other = one
  stands_then s Stops g one other = tt
  stands_then s (Reads t p left) g one other = stands_on s t (g t p left) one (other t p left one)

  pub goes_then : (s : Scenario) (r : Reading) (go : List ℕ → Reading) (g : Reader) → After R s r go → ((t : Scenario) (p : ℕ) (ds : List ℕ) → R s t → Goes R t g p ds)
      → After R s (then_read r g) (λ more. then_read (go more) g)
  goes_then s (Wants t n) go g after each = (
    after.0,
    record {
      some = after.1.some;
      start = after.1.start;
      place = after.1.place;
      next = λ k u p rest. then_read (after.1.next k u p rest) g;
      is = λ more. ap (λ r. then_read r g) (after.1.is more) ∙ then_place after.1.start n after.1.next g t after.1.place more;
      on = λ k p ds l. stands_then t (after.1.next k t p ds) g (after.1.on k p ds l) (λ u q rest has. stands R u (g u q rest) (λ more. g u q (rest ++ more)) (each u q rest (both s t u after.0 has)));
    },
  )
  goes_then s Stops go g after each = λ more. ap (λ r. then_read r g) (after more)
  goes_then s (Reads t p left) go g after each =
      same_go R s (g t p left) (λ more. g t p (left ++ more)) (λ more. then_read (go more) g) (λ more. ap (λ r. then_read r g) (after.1 more))
      (after_on s t (g t p left) (λ more. g t p (left ++ more)) after.0 (each t p left after.0))

-- one reader after another, in two relations, of which the first is the narrower
module _ (R Q : Scenario → Scenario → Type 0) (both : (s t u : Scenario) → R s t → R t u → R s u) (join : (s t u : Scenario) → Q s t → Q t u → Q s u) (weaker : (s t : Scenario) → R s t → Q s t) where
  stands_then_in : (s : Scenario) (r : Reading) (g : Reader) → Stands R s r → ((t : Scenario) (p : ℕ) (ds : List ℕ) → R s t → Stands Q t (g t p ds)) → Stands Q s (then_read r g)
  stands_then_in s (Wants t n) g one other = weaker s t one
  stands_then_in s Stops g one other = tt
  stands_then_in s (Reads t p left) g one other = stands_on Q join s t (g t p left) (weaker s t one) (other t p left one)

  pub goes_then_in : (s : Scenario) (r : Reading) (go : List ℕ → Reading) (g : Reader) → After R s r go → ((t : Scenario) (p : ℕ) (ds : List ℕ) → R s t → Goes Q t g p ds)
      → After Q s (then_read r g) (λ more. then_read (go more) g)
  goes_then_in s (Wants t n) go g after each = (
    weaker s t after.0,
    record {
      some = after.1.some;
      start = after.1.start;
      place = after.1.place;
      next = λ k u p rest. then_read (after.1.next k u p rest) g;
      is = λ more. ap (λ r. then_read r g) (after.1.is more) ∙ then_place after.1.start n after.1.next g t after.1.place more;
      on = λ k p ds l. stands_then_in t (after.1.next k t p ds) g (after.1.on k p ds l) (λ u q rest has. stands Q u (g u q rest) (λ more. g u q (rest ++ more)) (each u q rest (both s t u after.0 has)));
    },
  )
  goes_then_in s Stops go g after each = λ more. ap (λ r. then_read r g) (after more)
  goes_then_in s (Reads t p left) go g after each =
      same_go Q s (g t p left) (λ more. g t p (left ++ more)) (λ more. then_read (go more) g) (λ more. ap (λ r. then_read r g) (after.1 more))
      (after_on Q join s t (g t p left) (λ more. g t p (left ++ more)) (weaker s t after.0) (each t p left after.0))
