use Rattle.std.proofs.Common.{All}
use Rattle.pst_link_order.specs.Takes.{IsTake}
use Rattle.pst_link_order.proofs.takes.takes_of.Given as goal

abbrev pub invariant-loop-act : goal.invariant-loop-act
invariant-loop-act l = All (IsTake l.scenario) l.found.items
