use Rattle.std.proofs.Common.{◌/◌, ◌%◌, ⊎_elim, arith}
use Rattle.std.proofs.lemmas.Bool.{cases_eq}
use Rattle.pst_book.proofs.Parting.{no_bit}
use Rattle.pst_static.proofs.rows.next_word.Goals as goal

pub loop-place-preserved : goal.loop-place-preserved
loop-place-preserved c =
    λ m l k h. ⊎_elim
    (λ e. no_bit c.word_at.result (m % 64) c.if-word_at-ne0.false ((c.word_at.ensures m e).1 h))
    (λ n. c.loop-place.invariant m l (omega (arith, k, n)) h)
    (cases_eq (m / 64) c.loop-place.place)
