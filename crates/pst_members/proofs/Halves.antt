-- A number is its lowest bit and its half.
use Rattle.std.proofs.Common.{◌≡◌, ℕ, ◌/◌, ◌%◌, Bool, true, false, nat_eq, refl, sym, ap, arith}
use Rattle.std.proofs.Math.Nat.{mod-add-div}
use Rattle.std.proofs.lemmas.Bool.{eqb-true, eqb-false, eq-eqb}

both_ways : (a b : Bool) → (a ≡ true → b ≡ true) → (b ≡ true → a ≡ true) → a ≡ b
both_ways true b to back = sym (to refl)
both_ways false true to back = back refl
both_ways false false to back = refl

same_number : (q k : ℕ) → q % 2 ≡ k % 2 → q / 2 ≡ k / 2 → q ≡ k
same_number q k bit half = omega (arith, mod-add-div q 2, mod-add-div k 2)

pub with_bit : (q k : ℕ) → nat_eq (q % 2) (k % 2) ≡ true → nat_eq (q / 2) (k / 2) ≡ nat_eq q k
with_bit q k bit =
    both_ways (nat_eq (q / 2) (k / 2)) (nat_eq q k)
    (λ e. eq-eqb q k (same_number q k (eqb-true (q % 2) (k % 2) bit) (eqb-true (q / 2) (k / 2) e)))
    (λ e. eq-eqb (q / 2) (k / 2) (ap (λ (n : ℕ). n / 2) (eqb-true q k e)))

other_than : (b : Bool) → (b ≡ true → ⊥) → b ≡ false
other_than true never = absurd (never refl)
other_than false never = refl

pub without_bit : (q k : ℕ) → nat_eq (q % 2) (k % 2) ≡ false → nat_eq q k ≡ false
without_bit q k bit = other_than (nat_eq q k) (λ e. eqb-false (q % 2) (k % 2) bit (ap (λ (n : ℕ). n % 2) (eqb-true q k e)))
