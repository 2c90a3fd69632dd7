use Rattle.std.proofs.Common.{◌≡◌, ◌<◌, ◌≤◌, ◌-◌, length, get_or}
use Rattle.std.specs.Prelude.{vec_capacity}
use Rattle.pst_static.proofs.Beginning.{Beginning}
use Rattle.pst_static.proofs.standing.start_members.Given as goal

abbrev pub decreases-members : goal.decreases-members
decreases-members l = length l.plan.groups - l.act

abbrev pub invariant-members : goal.invariant-members
invariant-members l = record {
  here : l.act < length l.plan.groups → get_or l.plan.groups l.act 0 ≡ l.group;
  beginning : Beginning l.plan l.programs l.places l.group l.act l.fn.trace.items l.trace.items (vec_capacity l.trace) l.fn.started.items l.started.items;
  capacity : vec_capacity l.fn.trace ≤ vec_capacity l.trace;
}
