-- Bits of words.
use Rattle.std.proofs.Common.{◌≡◌, ◌↔◌, ◌∙◌, ◌/◌, ◌^◌, ◌<◌, ℕ, max, IsTrue, bit_and, sym, subst, arith}
use Rattle.std.specs.Prelude.{IsBitSet, bit_or, nat_eq}
use Rattle.std.specs.Int.{bit_at}
use Rattle.std.proofs.lemmas.Bool.{eqb-true, eq-eqb}
use Rattle.std.proofs.lemmas.Nat.{bit_set_by_shift}
use Rattle.std.proofs.lemmas.Nat.Bits.{shr_and_one, bit_at_or, bit_at-lt}

set_is_one : (n k : ℕ) → IsBitSet n k ↔ bit_at n k ≡ 1
set_is_one n k =
    let same = bit_set_by_shift n k in (
      λ s. sym (shr_and_one n k) ∙ same.1 s,
      λ one. same.0 (shr_and_one n k ∙ one),
    )

in_or : (x y k : ℕ) → IsBitSet y k → IsBitSet (bit_or x y) k
in_or x y k s =
    let one : bit_at y k ≡ 1 = (set_is_one y k).0 s in
    let small : bit_at x k < 2 = bit_at-lt x k in
    let most : max (bit_at x k) (bit_at y k) ≡ 1 = omega (arith, one, small) in
    (set_is_one (bit_or x y) k).1 (bit_at_or x y k ∙ most)

-- a word that takes in another one and stays the same has its bits
pub no_more : (word other k : ℕ) → bit_or other word ≡ other → IsBitSet word k → IsBitSet other k
no_more word other k e s = subst (λ w. IsBitSet w k) e (in_or other word k s)

-- the test of one bit of a word
pub test : (n k : ℕ) → IsTrue (nat_eq (bit_and (n / 2 ^ k) 1) 1) ↔ IsBitSet n k
test n k =
    let same = bit_set_by_shift n k in (
      λ t. same.0 (eqb-true (bit_and (n / 2 ^ k) 1) 1 t),
      λ s. eq-eqb (bit_and (n / 2 ^ k) 1) 1 (same.1 s),
    )
