use Rattle.std.proofs.Common.{take, length}
use Rattle.pst_scen.specs.Plan.{AreCounts}
use Rattle.pst_scen.proofs.plan.count_members.Given as goal

abbrev pub invariant-loop-group : goal.invariant-loop-group
invariant-loop-group l = AreCounts (take l.group-index l.groups) (length l.groups) l.counts.items
