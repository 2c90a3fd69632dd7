-- First objects of pools that rise.
use Rattle.std.proofs.Common.{◌≡◌, ℕ, zero, suc, ◌+◌, ◌<◌, ◌≤◌, List, [], ◌∷◌, map, Bool, true, false, nat_eq, cond, if◌then◌else◌, Some, refl, sym, ap, ◌∙◌, arith}
use Rattle.std.specs.Prelude.{slice_get}
use Rattle.std.specs.List.{filter, range_with_len}
use Rattle.std.proofs.lemmas.Bool.{eq-eqb, ne_eqb}
use Rattle.std.proofs.lemmas.Option.{none-some, same_Some}
use Rattle.pst_scen.specs.declared.scenario.First.{First}
use Rattle.pst_legal.specs.SupplyReading.{alter}
use Rattle.pst_legal.specs.ValueReading.{empty_first}
use Rattle.pst_blanks.specs.Placed.{pools_of, Rise}
use Rattle.pst_blanks.proofs.Alters.{alt, alter_is}

rise_from : (low other : ℕ) (xs : List ℕ) → other ≤ low → Rise low xs → Rise other xs
rise_from low other [] l rise = tt
rise_from low other (x ∷ xs) l rise = (omega (arith, l, rise.0), rise.1)

rise_cond : (b : Bool) (a : ℕ) (xs : List ℕ) → Rise (a + 1) xs → Rise a (cond b (a ∷ xs) xs)
rise_cond true a xs rise = (omega arith, rise)
rise_cond false a xs rise = rise_from (a + 1) a xs (omega arith) rise

-- numbers of a range rise
pub rise_range : (test : ℕ → Bool) (a n : ℕ) → Rise a (filter test (range_with_len a n))
rise_range test a zero = tt
rise_range test a (suc n) = rise_cond (test a) a (filter test (range_with_len (a + 1) n)) (rise_range test (a + 1) n)

rise_least : (low : ℕ) (xs : List ℕ) (i x : ℕ) → Rise low xs → slice_get xs i ≡ Some x → low ≤ x
rise_least low [] i x rise is = absurd (none-some x is)
rise_least low (y ∷ xs) zero x rise is = let e : y ≡ x = same_Some y x is in omega (arith, rise.0, e)
rise_least low (y ∷ xs) (suc i) x rise is = let l = rise_least (y + 1) xs i x rise.1 is in omega (arith, rise.0, l)

abbrev pub of_pool : (First → First) → ℕ → First → First
of_pool g pool first = if nat_eq first.pool pool then g first else first

none_of : (g : First → First) (pool low : ℕ) (firsts : List First) → pool < low → Rise low (pools_of firsts) → map (of_pool g pool) firsts ≡ firsts
none_of g pool low [] l rise = refl
none_of g pool low (first ∷ firsts) l rise =
    ap (λ b. (if b then g first else first) ∷ map (of_pool g pool) firsts) (ne_eqb first.pool pool (λ e. let bad : ⊥ = omega (arith, l, rise.0, e) in bad))
    ∙ ap (λ r. first ∷ r) (none_of g pool (first.pool + 1) firsts (omega (arith, l, rise.0)) rise.1)

by_place : (g : First → First) (pool low i : ℕ) (firsts : List First) → Rise low (pools_of firsts) → slice_get (pools_of firsts) i ≡ Some pool → map (of_pool g pool) firsts ≡ alt g i firsts
by_place g pool low i [] rise is = refl
by_place g pool low zero (first ∷ firsts) rise is =
    let e : first.pool ≡ pool = same_Some first.pool pool is in
    ap (λ b. (if b then g first else first) ∷ map (of_pool g pool) firsts) (eq-eqb first.pool pool e)
    ∙ ap (λ r. g first ∷ r) (none_of g pool (first.pool + 1) firsts (omega (arith, e)) rise.1)
by_place g pool low (suc i) (first ∷ firsts) rise is =
    let l : first.pool + 1 ≤ pool = rise_least (first.pool + 1) (pools_of firsts) i pool rise.1 is in
    ap (λ b. (if b then g first else first) ∷ map (of_pool g pool) firsts) (ne_eqb first.pool pool (λ e. let bad : ⊥ = omega (arith, l, e) in bad))
    ∙ ap (λ r. first ∷ r) (by_place g pool (first.pool + 1) i firsts rise.1 is)

-- the first object of that pool is the one of that number
pub first_at : (g : First → First) (pool i : ℕ) (firsts : List First) → Rise 0 (pools_of firsts) → slice_get (pools_of firsts) i ≡ Some pool → map (of_pool g pool) firsts ≡ alter g i firsts
first_at g pool i firsts rise is = by_place g pool 0 i firsts rise is ∙ sym (alter_is g i firsts)

-- empty first objects of pools are of these
pub empty_pools : (pools : List ℕ) → pools_of (map empty_first pools) ≡ pools
empty_pools [] = refl
empty_pools (x ∷ xs) = ap (λ ys. x ∷ ys) (empty_pools xs)
