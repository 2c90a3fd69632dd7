use Rattle.std.proofs.Common.{length, ◌-◌, ◌≡◌}
use Rattle.pst_io.proofs.Writing.{HasWritten}
use Rattle.pst_io.proofs.whole.write_all.Given as goal

abbrev pub invariant-loop-done : goal.invariant-loop-done
invariant-loop-done g l =
    HasWritten l.text l.done (g.K.Sink.written l.initial.sink) (g.K.Sink.written l.sink)
    (g.K.Sink.spare l.initial.sink) (g.K.Sink.spare l.sink)
    × (g.K.Sink.faults l.sink ≡ g.K.Sink.faults l.initial.sink)

abbrev pub decreases-loop-done : goal.decreases-loop-done
decreases-loop-done g l = length l.text - l.done
