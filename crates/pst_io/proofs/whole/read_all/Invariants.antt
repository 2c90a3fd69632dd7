use Rattle.std.proofs.Common.{◌+◌, ◌-◌, vec_len}
use Rattle.pst_io.proofs.Reading.{KeepsReading}
use Rattle.pst_io.proofs.whole.read_all.Given as goal

abbrev pub invariant-loop-piece : goal.invariant-loop-piece
invariant-loop-piece g l =
    KeepsReading _ (g.S.Shelf.files l.initial.shelf) (g.S.Shelf.files l.shelf)
    (g.S.Shelf.faults l.initial.shelf) (g.S.Shelf.faults l.shelf)
    (g.S.Shelf.rest l.initial.shelf) (g.S.Shelf.rest l.shelf)
    l.initial.into.items l.into.items l.start (vec_len l.into)

abbrev pub decreases-loop-piece : goal.decreases-loop-piece
decreases-loop-piece g l = l.start + l.most + 1 - vec_len l.into
