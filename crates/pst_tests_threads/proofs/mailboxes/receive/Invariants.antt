use Rattle.std.proofs.Common.{◌≡◌}
use Rattle.pst_tests_threads.proofs.mailboxes.receive.Given as goal

abbrev pub invariant-loop : goal.invariant-loop
invariant-loop l = record { table : l.seat.table ≡ l.initial.seat.table; idle : l.seat.fetched ≡ l.seat.finished }
