use Rattle.std.proofs.Common.{All}
use Rattle.pst_link_order.specs.Takes.{IsPair}
use Rattle.pst_link_order.proofs.judging.is_refused_ahead.Given as goal

abbrev pub invariant-loop-round : goal.invariant-loop-round
invariant-loop-round l = All (IsPair l.scenario) l.pairs.items
