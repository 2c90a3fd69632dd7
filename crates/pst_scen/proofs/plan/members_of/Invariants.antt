use Rattle.std.proofs.Common.{◌≡◌, ◌≤◌, take}
use Rattle.pst_scen.specs.Plan.{member_count}
use Rattle.pst_scen.proofs.plan.members_of.Given as goal

abbrev pub invariant-loop-other : goal.invariant-loop-other
invariant-loop-other l = record { is : l.count ≡ member_count (take l.other-index l.groups) l.group; few : l.count ≤ l.other-index }
