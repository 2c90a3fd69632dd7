use Rattle.std.proofs.Common.{◌↔◌, ◌+◌, ◌*◌, ◌/◌, ◌%◌, ◌^◌, ℕ, List, IsTrue, subst, sym, bit_and}
use Rattle.std.specs.Prelude.{IsBitSet, nat_eq, get_or}
use Rattle.std.proofs.lemmas.Bool.{eqb-true, eq-eqb}
use Rattle.std.proofs.lemmas.Nat.{bit_set_by_shift}
use Rattle.pst_scen.specs.Rows.{row_words}
use Rattle.pst_scen.proofs.rows.Rows.has.Goals as goal

-- the test of one bit of a word
test : (n k : ℕ) → IsTrue (nat_eq (bit_and (n / 2 ^ k) 1) 1) ↔ IsBitSet n k
test n k =
    let same = bit_set_by_shift n k in (
      λ t. same.0 (eqb-true (bit_and (n / 2 ^ k) 1) 1 t),
      λ s. eq-eqb (bit_and (n / 2 ^ k) 1) 1 (same.1 s),
    )

pub returns : goal.returns
returns c =
    let place = c.args.a * row_words c.args.self.now.size + c.args.b / 64 in
    subst (λ (words : List ℕ). IsTrue (nat_eq (bit_and (get_or words place 0 / 2 ^ (c.args.b % 64)) 1) 1) ↔ IsBitSet (get_or c.args.self.now.words place 0) (c.args.b % 64))
    (sym c.as_slice.ensures)
    (test (get_or c.args.self.now.words place 0) (c.args.b % 64))
