use Rattle.std.proofs.Common.{◌≤◌, ◌-◌}
use Rattle.pst_scen.specs.Rows.{Has, row_words}
use Rattle.pst_static.specs.Stamps.{IsStamped}
use Rattle.pst_book.proofs.Parting.{AreWordsChanged}
use Rattle.pst_static.proofs.latest.stamp.Given as goal

abbrev pub decreases-words : goal.decreases-words
decreases-words l = row_words l.rows.size - l.place

abbrev pub invariant-words : goal.invariant-words
invariant-words l = record {
  inside : l.place ≤ row_words l.rows.size;
  changed : AreWordsChanged (IsStamped l.value (Has l.rows l.a)) l.fn.places l.places l.place;
}
