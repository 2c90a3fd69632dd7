use Rattle.std.proofs.Common.{All}
use Rattle.pst_link_order.specs.Reasons.{IsReason}
use Rattle.pst_link_order.proofs.reasons.reasons_of.Given as goal

abbrev pub invariant-loop-reference : goal.invariant-loop-reference
invariant-loop-reference l = All (IsReason l.scenario l.act) l.found.items
