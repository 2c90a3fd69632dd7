use Rattle.std.proofs.Common.{◌≡◌}
use Rattle.pst_tests_threads.proofs.mailboxes.ask.Given as goal

abbrev pub invariant-loop-number : goal.invariant-loop-number
invariant-loop-number l = record { book : l.book.table ≡ l.there; lane : l.lane.table ≡ l.back; idle : l.lane.fetched ≡ l.lane.finished }
