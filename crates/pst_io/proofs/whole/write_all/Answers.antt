use Rattle.std.proofs.Common.{◌∙◌, arith, length-drop}
use Rattle.std.proofs.lemmas.List.{take_rest}
use Rattle.pst_io.proofs.Writing.{append_known-more}
use Rattle.pst_io.proofs.whole.write_all.Goals as goal

pub loop-done-preserved : goal.loop-done-preserved
loop-done-preserved g c =
    let text = c.args.text.now in
    let i = c.loop-done.done in
    let piece = rw (take_rest text i) at c.in_ok-done.ensures in (
      record {
        within = omega (arith, piece.bound, length-drop i text);
        written = piece.appended ∙ rw c.loop-done.invariant.0.written (append_known-more _ text i c.in_ok-done.field-0);
        room = omega (arith, piece.room);
        enough = omega (arith, piece.room);
      },
      piece.count ∙ c.loop-done.invariant.1,
    )
