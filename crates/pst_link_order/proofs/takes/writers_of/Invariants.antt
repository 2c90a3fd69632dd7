use Rattle.std.proofs.Common.{All}
use Rattle.pst_link_order.specs.Takes.{IsWriter}
use Rattle.pst_link_order.proofs.takes.writers_of.Given as goal

abbrev pub invariant-loop-act : goal.invariant-loop-act
invariant-loop-act l = All (IsWriter l.scenario) l.found.items
