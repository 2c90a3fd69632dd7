use Rattle.std.proofs.Common.{◌≡◌, ◌≤◌, length, map, drop}
use Rattle.std.specs.Prelude.{◌↔◌}
use Rattle.pst_scen.specs.Plan.{members, places_from}
use Rattle.pst_by_rule.specs.Blocks.{act_of}
use Rattle.pst_check.proofs.group.are_members.Given as goal

abbrev pub invariant-loop-a : goal.invariant-loop-a
invariant-loop-a l = record {
  inside : l.at ≤ length l.part;
  same : (map act_of l.part ≡ members l.plan.groups l.group) ↔ (drop l.at (map act_of l.part) ≡ places_from (drop l.a l.plan.groups) l.a l.group);
}
