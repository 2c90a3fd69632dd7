-- The next multiple.
use Rattle.std.proofs.Common.{◌≡◌, ℕ, ◌+◌, ◌-◌, ◌*◌, ◌/◌, ◌%◌, ◌<◌, ◌≤◌, ◌^◌, Option, Some, None, sym, subst, ⊎_elim, arith}
use Rattle.std.specs.Prelude.{MatchOption, SomeIff}
use Rattle.std.proofs.Math.Nat.{mul-mod_left, mul-le-mul_right, mod-add-div', mod-lt}
use Rattle.std.proofs.lemmas.Bool.{cases_lt}
use Rattle.pst_addr.specs.Places.{IsLeast}
use Rattle.pst_addr.specs.Ranges.{IsMultipleFrom}

one_more : (k align : ℕ) → (k + 1) * align ≡ k * align + align
one_more k align = grind arith

-- the multiple behind a number that is none
next_up : (address align : ℕ) → 1 ≤ align → (address % align ≡ 0 → ⊥) → IsLeast (IsMultipleFrom address align) (address + (align - address % align))
next_up address align some none =
    let q = address / align in
    let d : address % align + q * align ≡ address = mod-add-div' address align in
    let l : address % align < align = mod-lt address (omega (arith, some)) in
    let m = one_more q align in
    let e : (q + 1) * align ≡ address + (align - address % align) = omega (arith, d, l, m) in
    record {
      holds = (omega arith, subst (λ v. v % align ≡ 0) e (mul-mod_left (q + 1) align));
      least = λ other h.
          let from = h.0 in
          let a = h.1 in
          let k = other / align in
          let c : other % align + k * align ≡ other = mod-add-div' other align in
          ⊎_elim
          (λ b. let g : (q + 1) * align ≤ k * align = mul-le-mul_right align (omega (arith, b)) in omega (arith, g, e, c, a))
          (λ b. let g : k * align ≤ q * align = mul-le-mul_right align b in
          let z : address % align ≡ 0 = omega (arith, g, c, a, d, from) in absurd (none z))
          (cases_lt q k);
    }

-- it is the sum, where that takes no more than 64 bits
pub checked_up : (address align : ℕ) (result : Option ℕ) → 1 ≤ align → (address % align ≡ 0 → ⊥)
    → SomeIff result (address + (align - address % align) < 2 ^ 64) (address + (align - address % align))
    → MatchOption result ((other : ℕ) → IsMultipleFrom address align other → 2 ^ 64 ≤ other) (IsLeast (IsMultipleFrom address align))
checked_up address align None some none h =
    λ other m. let t = (next_up address align some none).least other m in ⊎_elim (λ k. absurd (h (omega (arith, k, t)))) (λ k. k) (cases_lt other (2 ^ 64))
checked_up address align (Some v) some none h = subst (IsLeast (IsMultipleFrom address align)) (sym h.1) (next_up address align some none)

-- a multiple is its own next one
pub itself : (address align : ℕ) → address % align ≡ 0 → IsLeast (IsMultipleFrom address align) address
itself address align e = record { holds = (omega arith, e); least = λ other m. m.0 }
