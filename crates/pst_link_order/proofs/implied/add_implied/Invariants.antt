use Rattle.std.proofs.Common.{All}
use Rattle.pst_link_order.specs.Takes.{IsPair}
use Rattle.pst_link_order.proofs.implied.add_implied.Given as goal

abbrev pub invariant-loop-take : goal.invariant-loop-take
invariant-loop-take l = All (IsPair l.scenario) l.pairs.items
