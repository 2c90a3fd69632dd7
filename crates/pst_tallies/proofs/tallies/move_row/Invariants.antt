use Rattle.pst_scen.specs.Rows.{Has}
use Rattle.pst_tallies.proofs.Moving.{AreWordsMoved}
use Rattle.pst_tallies.proofs.tallies.move_row.Given as goal

abbrev pub invariant-loop-place : goal.invariant-loop-place
invariant-loop-place l = AreWordsMoved l.rows.size l.step (Has l.rows l.a) l.fn.tally l.tally l.place
