use Rattle.std.proofs.Common.{◌-◌, length}
use Rattle.pst_tallies.specs.Tallies.{counts_in}
use Rattle.pst_static.specs.Taking.{AreHinted, IsFirst}
use Rattle.pst_static.proofs.Taken.{Follows}
use Rattle.pst_static.proofs.order.take_all.Given as goal

abbrev pub decreases-groups : goal.decreases-groups
decreases-groups l = length l.plan.groups - length l.order.items

abbrev pub invariant-groups : goal.invariant-groups
invariant-groups l = record {
  follows : Follows l.plan l.order.items (counts_in (length l.plan.groups) l.awaited) l.taken;
  hinted : AreHinted l.plan (counts_in (length l.plan.groups) l.awaited) l.taken l.hints;
  first : IsFirst l.plan (counts_in (length l.plan.groups) l.awaited) l.taken l.group;
}
