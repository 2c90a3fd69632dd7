use Rattle.std.proofs.Common.{◌≡◌}
use Rattle.pst_workers.proofs.shared.SharedDesk.wait.Given as goal

abbrev pub invariant-loop : goal.invariant-loop
invariant-loop g l = record {
  table : l.seat.table ≡ l.initial.seat.table;
  lane : l.seat.lane ≡ l.initial.seat.lane;
  finished : l.seat.finished ≡ l.initial.seat.finished;
  fetched : l.seat.fetched ≡ l.initial.seat.fetched;
}
