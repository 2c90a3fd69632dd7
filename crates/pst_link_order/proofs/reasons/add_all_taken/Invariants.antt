use Rattle.std.proofs.Common.{All}
use Rattle.pst_link_order.specs.Reasons.{IsReason}
use Rattle.pst_link_order.proofs.reasons.add_all_taken.Given as goal

abbrev pub invariant-loop-take : goal.invariant-loop-take
invariant-loop-take l = All (IsReason l.scenario l.act) l.found.items
