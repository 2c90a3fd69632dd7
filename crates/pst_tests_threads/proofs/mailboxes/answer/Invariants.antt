use Rattle.std.proofs.Common.{◌≡◌}
use Rattle.pst_tests_threads.proofs.mailboxes.answer.Given as goal

abbrev pub invariant-loop : goal.invariant-loop
invariant-loop l = record { book : l.book.table ≡ l.back; lane : l.lane.table ≡ l.there; idle : l.lane.fetched ≡ l.lane.finished }
