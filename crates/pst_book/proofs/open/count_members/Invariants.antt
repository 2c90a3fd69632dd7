use Rattle.std.proofs.Common.{◌≡◌, ◌<◌, ◌≤◌, ◌+◌, ◌-◌, drop, length, get_or}
use Rattle.pst_scen.specs.Plan.{places_from, members}
use Rattle.pst_book.proofs.open.count_members.Given as goal

abbrev pub decreases-members : goal.decreases-members
decreases-members l = length l.run.plan.groups - l.act

abbrev pub invariant-members : goal.invariant-members
invariant-members l = record {
  here : l.act < length l.run.plan.groups → get_or l.run.plan.groups l.act 0 ≡ l.group;
  is : l.total + length (places_from (drop l.act l.run.plan.groups) l.act l.group) ≡ length (members l.run.plan.groups l.group);
  few : l.total ≤ l.act;
}
