use Rattle.std.proofs.Common.{All}
use Rattle.pst_link_order.specs.Takes.{IsPair}
use Rattle.pst_link_order.proofs.implied.add_implied_by.Given as goal

abbrev pub invariant-loop-writer : goal.invariant-loop-writer
invariant-loop-writer l = All (IsPair l.scenario) l.pairs.items
