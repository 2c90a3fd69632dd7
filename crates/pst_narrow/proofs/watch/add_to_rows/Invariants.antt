use Rattle.pst_narrow.specs.Watch.{AreAdded}
use Rattle.pst_narrow.proofs.NotedLemmas.{IsForFirst}
use Rattle.pst_narrow.proofs.watch.add_to_rows.Given as goal

abbrev pub invariant-loop-place : goal.invariant-loop-place
invariant-loop-place l = AreAdded (IsForFirst l.place-index l.places l.number) l.initial.rows l.rows
