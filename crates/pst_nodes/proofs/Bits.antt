-- Bits that a word doesn't have, and tests that decide a property.
use Rattle.std.proofs.Common.{◌≡◌, ◌<◌, ◌≤◌, ◌↔◌, ◌*◌, ◌%◌, ◌^◌, ℕ, Bool, true, false, not, IsTrue, bit_and, refl, ap, ◌∙◌, arith}
use Rattle.std.proofs.lemmas.Nat.Bits.{and_pow}
use Rattle.std.proofs.Math.Pow.{pow_mono}
use Rattle.std.proofs.Math.Nat.{div-eq_of_lt}

pub no_high_bit : (n k : ℕ) → n < 2 ^ 64 → 64 ≤ k → bit_and n (2 ^ k) ≡ 0
no_high_bit n k small high =
    let more : 2 ^ 64 ≤ 2 ^ k = pow_mono high in
    let below : n < 2 ^ k = omega (arith, more, small) in
    and_pow n k ∙ ap (λ m. m % 2 * 2 ^ k) (div-eq_of_lt below) ∙ omega arith

pub no_true : IsTrue false → ⊥
no_true e = cc

pub not_test : (b : Bool) {A B : Type 0} → (IsTrue b ↔ A) → ((A → ⊥) → B) → (B → A → ⊥) → IsTrue (not b) ↔ B
not_test true h f g = (λ t. absurd (no_true t), λ y. absurd (g y (h.0 refl)))
not_test false h f g = (λ t. f (λ a. no_true (h.1 a)), λ y. refl)
