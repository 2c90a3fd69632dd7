use Rattle.std.proofs.Common.{◌<◌, ◌≤◌, ◌/◌, ◌-◌}
use Rattle.pst_scen.specs.Rows.{Has, row_words}
use Rattle.pst_book.specs.Ready.{AreMarked}
use Rattle.pst_book.proofs.ready.mark_row.Given as goal

abbrev pub decreases-words : goal.decreases-words
decreases-words l = row_words l.rows.size - l.place

abbrev pub invariant-words : goal.invariant-words
invariant-words l = record {
  inside : l.place ≤ row_words l.rows.size;
  marked : AreMarked l.run.plan l.run.trace (λ m. (m < l.rows.size) × (m / 64 < l.place) × Has l.rows l.a m) l.fn.marks l.marks;
}
