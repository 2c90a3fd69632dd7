use Rattle.std.proofs.Common.{◌+◌, ◌*◌, ◌/◌, ◌%◌, ◌<◌, ◌↔◌, ℕ, List, get_or, subst}
use Rattle.std.specs.Prelude.{IsBitSet}
use Rattle.pst_scen.specs.Rows.{row_words}
use Rattle.pst_square.proofs.Nexts.{rest_has}
use Rattle.pst_square.proofs.next.rest_of_word.Goals as goal

pub returns : goal.returns
returns c =
    let row = row_words c.args.rows.now.size in
    rest_has c.args.rows.now.words row c.args.a c.args.b c.from_bit.result
    (subst (λ (words : List ℕ). (k : ℕ) → IsBitSet c.from_bit.result k ↔ (c.args.b % 64 + k < 64) × IsBitSet (get_or words (c.args.a * row + c.args.b / 64) 0) (c.args.b % 64 + k)) c.as_slice.ensures c.from_bit.ensures)
