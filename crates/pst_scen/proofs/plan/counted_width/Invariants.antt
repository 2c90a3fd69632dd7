use Rattle.std.proofs.Common.{◌≡◌, drop, max}
use Rattle.pst_scen.specs.Plan.{widest, widest_among}
use Rattle.pst_scen.proofs.plan.counted_width.Given as goal

abbrev pub invariant-loop-group : goal.invariant-loop-group
invariant-loop-group l = max l.width (widest_among l.groups (drop l.group-index l.groups)) ≡ widest l.groups
