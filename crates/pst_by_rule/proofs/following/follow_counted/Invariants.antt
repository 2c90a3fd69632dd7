use Rattle.std.proofs.Common.{◌≤◌, ◌-◌, length, take, drop}
use Rattle.pst_scen.specs.declared.scenario.Scenario.{Scenario}
use Rattle.pst_scen.specs.Plans.{IsPlanOf}
use Rattle.pst_by_rule.specs.Blocks.{AreOnward}
use Rattle.pst_by_rule.specs.Counted.{AreCounted}
use Rattle.pst_by_rule.specs.Followed.{AreFollowed}
use Rattle.pst_by_rule.proofs.following.follow_counted.Given as goal

abbrev pub invariant-followed : goal.invariant-followed
invariant-followed l = record {
  counted : AreCounted l.plan (take l.first l.events) l.started l.ended l.awaited l.in_the_way l.next l.holders;
  followed : (s : Scenario) → IsPlanOf s l.plan → AreFollowed s l.events l.first l.blocks;
  rest : AreOnward (drop l.first l.events);
  few : l.blocks ≤ l.first;
  inside : l.first ≤ length l.events;
}

abbrev pub decreases-followed : goal.decreases-followed
decreases-followed l = length l.events - l.first
