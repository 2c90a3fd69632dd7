use Rattle.std.proofs.Common.{◌<◌, ◌+◌, ◌^◌, length, get_or, sym, subst, arith}
use Rattle.pst_scen.proofs.Counts.{room_left, counted_on}
use Rattle.pst_scen.proofs.plan.count_members.Goals as goal

pub count_one-requires-clause-room : goal.count_one-requires-clause-room
count_one-requires-clause-room c =
    let groups = c.args.groups.now in
    let i = c.loop-group.group-index in
    let within = c.loop-group-test.true in
    let least = c.requires.numbered.least i within in
    let below : get_or groups i 0 < length groups = omega (arith, least, within) in
    subst (λ v. v + 1 < 2 ^ 32) (sym (c.loop-group.invariant.each (get_or groups i 0) below)) (room_left groups i (get_or groups i 0) within c.requires.few)

pub loop-group-preserved : goal.loop-group-preserved
loop-group-preserved c =
    let raised = c.count_one.ensures in
    counted_on c.args.groups.now c.loop-group.group-index _ c.loop-group.counts.items _ c.loop-group-test.true c.loop-group.invariant raised.long raised.here raised.others
