use Rattle.std.proofs.Common.{◌≡◌, take}
use Rattle.pst_action_needs.proofs.rows.continued.Given as goal

abbrev pub invariant-loop-member : goal.invariant-loop-member
invariant-loop-member l = l.found.items ≡ take l.member-index l.before
