use Rattle.std.proofs.Common.{◌≡◌, ◌<◌, ◌-◌, length, get_or}
use Rattle.pst_static.proofs.Dealt.{Sharing}
use Rattle.pst_static.proofs.deal.deal_group.Given as goal

abbrev pub decreases-members : goal.decreases-members
decreases-members l = length l.plan.groups - l.act

abbrev pub invariant-members : goal.invariant-members
invariant-members l = record {
  here : l.act < length l.plan.groups → get_or l.plan.groups l.act 0 ≡ l.group;
  sharing : Sharing l.plan (length l.fn.used) l.group l.act l.fn.dealt.items l.dealt.items l.loads l.used;
}
