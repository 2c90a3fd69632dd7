use Rattle.std.proofs.Common.{All}
use Rattle.pst_link_order.specs.Takes.{IsWriter}
use Rattle.pst_link_order.proofs.takes.add_writers.Given as goal

abbrev pub invariant-loop-reference : goal.invariant-loop-reference
invariant-loop-reference l = All (IsWriter l.scenario) l.found.items
