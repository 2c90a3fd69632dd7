use Rattle.std.proofs.Common.{◌≡◌}
use Rattle.pst_tests_threads.proofs.mailboxes.send.Given as goal

abbrev pub invariant-loop : goal.invariant-loop
invariant-loop l = l.seat.table ≡ l.initial.seat.table
