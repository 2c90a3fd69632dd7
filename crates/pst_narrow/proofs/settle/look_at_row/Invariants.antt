use Rattle.pst_narrow.proofs.SettleLemmas.{IsRowLooked}
use Rattle.pst_narrow.proofs.settle.look_at_row.Given as goal

abbrev pub invariant-loop-number : goal.invariant-loop-number
invariant-loop-number l = IsRowLooked l.constraints l.row l.number-index l.initial.bounds l.bounds l.initial.trail l.trail
