-- Bits of words.
use Rattle.std.proofs.Common.{◌≡◌, ◌↔◌, ◌⊎◌, inl, inr, ⊎_elim, ◌<◌, ◌^◌, ◌-◌, min, ℕ, sym, ap, ◌∙◌, arith}
use Rattle.std.specs.Prelude.{IsBitSet, bit_and}
use Rattle.std.specs.Int.{bit_at, bit_not, w64}
use Rattle.std.proofs.lemmas.Bool.{cases_lt}
use Rattle.std.proofs.lemmas.Nat.{bit_set_by_shift}
use Rattle.std.proofs.lemmas.Nat.Bits.{shr_and_one, bit_at_and, bit_at_not, bit_at-lt}

pub set_is_one : (n k : ℕ) → IsBitSet n k ↔ bit_at n k ≡ 1
set_is_one n k =
    let same = bit_set_by_shift n k in (
      λ s. sym (shr_and_one n k) ∙ same.1 s,
      λ one. same.0 (shr_and_one n k ∙ one),
    )

zero_or_one : (x y : ℕ) → x < 2 → y < 2 → min x (1 - y) ≡ 1 ↔ (x ≡ 1) × (y ≡ 1 → ⊥)
zero_or_one x y x_small y_small = (λ e. (omega (arith, e, x_small, y_small), λ one. omega (arith, e, one)), λ h. let one = h.0 in let none = h.1 in omega (arith, one, none, y_small))

pub without_has : (word other k : ℕ) → other < 2 ^ 64 → k < 64 → IsBitSet (bit_and word (bit_not w64 other)) k ↔ IsBitSet word k × (IsBitSet other k → ⊥)
without_has word other k small k_in = (there, back)
  where
    is : bit_at (bit_and word (bit_not w64 other)) k ≡ min (bit_at word k) (1 - bit_at other k)
    is = bit_at_and word (bit_not w64 other) k ∙ ap (λ x. min (bit_at word k) x) (bit_at_not w64 other k small k_in)

    both : min (bit_at word k) (1 - bit_at other k) ≡ 1 ↔ (bit_at word k ≡ 1) × (bit_at other k ≡ 1 → ⊥)
    both = zero_or_one (bit_at word k) (bit_at other k) (bit_at-lt word k) (bit_at-lt other k)

    there : IsBitSet (bit_and word (bit_not w64 other)) k → IsBitSet word k × (IsBitSet other k → ⊥)
    there s =
        let h = both.0 (sym is ∙ (set_is_one (bit_and word (bit_not w64 other)) k).0 s) in
        ((set_is_one word k).1 h.0, λ o. h.1 ((set_is_one other k).0 o))

    back : IsBitSet word k × (IsBitSet other k → ⊥) → IsBitSet (bit_and word (bit_not w64 other)) k
    back h = (set_is_one (bit_and word (bit_not w64 other)) k).1 (is ∙ both.1 ((set_is_one word k).0 h.0, λ o. h.1 ((set_is_one other k).1 o)))

-- a bit is set or not
pub set_or_not : (n k : ℕ) → IsBitSet n k ⊎ (IsBitSet n k → ⊥)
set_or_not n k =
    let small : bit_at n k < 2 = bit_at-lt n k in
    ⊎_elim (λ none. inr (λ s. let one = (set_is_one n k).0 s in omega (arith, none, one))) (λ some. inl ((set_is_one n k).1 (omega (arith, some, small)))) (cases_lt (bit_at n k) 1)
