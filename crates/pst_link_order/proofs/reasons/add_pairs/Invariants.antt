use Rattle.std.proofs.Common.{All}
use Rattle.pst_link_order.specs.Reasons.{IsReason}
use Rattle.pst_link_order.proofs.reasons.add_pairs.Given as goal

abbrev pub invariant-loop-pair : goal.invariant-loop-pair
invariant-loop-pair l = All (IsReason l.scenario l.act) l.found.items
