use Rattle.std.proofs.Common.{◌≡◌, ◌≤◌, drop, length, max}
use Rattle.pst_scen.specs.Plan.{widest, widest_among}
use Rattle.pst_scen.proofs.plan.width_of.Given as goal

abbrev pub invariant-loop-group : goal.invariant-loop-group
invariant-loop-group l = record { is : max l.width (widest_among l.groups (drop l.group-index l.groups)) ≡ widest l.groups; few : l.width ≤ length l.groups }
