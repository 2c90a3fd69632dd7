use Rattle.std.proofs.Common.{All}
use Rattle.pst_link_order.specs.Takes.{IsTake}
use Rattle.pst_link_order.proofs.takes.add_takes.Given as goal

abbrev pub invariant-loop-reference : goal.invariant-loop-reference
invariant-loop-reference l = All (IsTake l.scenario) l.found.items
