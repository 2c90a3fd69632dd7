use Rattle.std.proofs.Common.{◌≡◌, ◌<◌, ◌/◌, ◌%◌, inl, inr, ⊎_elim, arith}
use Rattle.std.specs.Prelude.{IsBitSet}
use Rattle.std.proofs.lemmas.Bool.{cases_eq, cases_lt}
use Rattle.pst_scen.specs.Rows.{Has}
use Rattle.pst_book.proofs.Marking.{marked_then}
use Rattle.pst_book.proofs.ready.mark_row.Goals as goal

pub words-preserved : goal.words-preserved
words-preserved c =
    let e = c.next_word-place-in-words.ensures in
    let p = c.args.run.now.plan in
    let t = c.args.run.now.trace in
    let rows = c.args.rows.now in
    record {
      inside = e.inside.1;
      marked = marked_then p t (λ m. (m < rows.size) × (m / 64 < c.words.place) × Has rows c.args.a m) (λ m. (m < rows.size) × (m / 64 ≡ c.words.place) × IsBitSet c.word_at.result (m % 64))
          (λ m. (m < rows.size) × (m / 64 < c.next_word-place-in-words.result) × Has rows c.args.a m) c.args.marks.now c.words.marks c.mark_word.new.marks c.words.invariant.marked c.mark_word.ensures
          (λ m q. ⊎_elim (λ b. inl (q.0, b, q.2))
          (λ b. ⊎_elim (λ same. inr (q.0, same, (c.word_at.ensures m same).1 q.2)) (λ n. absurd (e.none m (omega (arith, b, n)) q.1 q.2)) (cases_eq (m / 64) c.words.place))
          (cases_lt (m / 64) c.words.place));
    }
