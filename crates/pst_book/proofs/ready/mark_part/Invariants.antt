use Rattle.std.proofs.Common.{◌<◌, ◌≤◌}
use Rattle.pst_book.specs.Parts.{IsMarked}
use Rattle.pst_book.specs.Ready.{AreMarked}
use Rattle.pst_book.proofs.ready.mark_part.Given as goal

abbrev pub invariant-loop-other : goal.invariant-loop-other
invariant-loop-other l = AreMarked l.run.plan l.run.trace (λ a. (l.first ≤ a) × (a < l.other) × IsMarked l.word l.first a) l.fn.marks l.marks
