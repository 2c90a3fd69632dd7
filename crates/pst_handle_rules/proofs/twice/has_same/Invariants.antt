use Rattle.pst_handle_rules.specs.Twice.{HasSame}
use Rattle.pst_handle_rules.proofs.twice.has_same.Given as goal

abbrev pub invariant-loop-at : goal.invariant-loop-at
invariant-loop-at l = HasSame l.side l.ties l.at l.tie → ⊥
