use Rattle.std.proofs.Common.{All}
use Rattle.pst_link_order.specs.Reasons.{IsUse}
use Rattle.pst_link_order.proofs.uses.uses_of.Given as goal

abbrev pub invariant-loop-reference : goal.invariant-loop-reference
invariant-loop-reference l = All (IsUse l.scenario l.act) l.found.items
