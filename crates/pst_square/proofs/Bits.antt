-- The test of one bit of a word.
use Rattle.std.proofs.Common.{◌↔◌, ◌/◌, ◌^◌, ℕ, IsTrue, bit_and}
use Rattle.std.specs.Prelude.{IsBitSet, nat_eq}
use Rattle.std.proofs.lemmas.Bool.{eqb-true, eq-eqb}
use Rattle.std.proofs.lemmas.Nat.{bit_set_by_shift}

pub bit_test : (n k : ℕ) → IsTrue (nat_eq (bit_and (n / 2 ^ k) 1) 1) ↔ IsBitSet n k
bit_test n k =
    let same = bit_set_by_shift n k in (
      λ t. same.0 (eqb-true (bit_and (n / 2 ^ k) 1) 1 t),
      λ s. eq-eqb (bit_and (n / 2 ^ k) 1) 1 (same.1 s),
    )
