use Rattle.std.proofs.Common.{arith}
use Rattle.pst_static.proofs.Tied.{lane_there, signal_in, tell_room, told_on}
use Rattle.pst_static.proofs.run.give.Goals as goal

pub mark-requires : goal.mark-requires
mark-requires c =
    let l = signal_in c.args.plan.now c.args.programs.now c.args.run.now c.requires.run c.programs_are_safe.ensures.safe c.args.lane c.args.action c.requires.at in
    let n = c.requires.run.many_told in
    omega (arith, l, n)

pub tell-requires : goal.tell-requires
tell-requires c =
    tell_room c.args.plan.now c.args.programs.now c.args.run.now c.requires.run c.whole_is_sound.ensures.clash c.whole_is_sound.ensures.inside c.members_are_those.ensures c.groups_are_whole.ensures.whole c.programs_are_safe.ensures.safe c.args.lane c.args.action c.requires.at

pub advance-requires-clause-lane_in : goal.advance-requires-clause-lane_in
advance-requires-clause-lane_in c = lane_there c.args.plan.now c.args.programs.now c.args.run.now c.requires.run c.args.lane _ c.requires.at

pub returns : goal.returns
returns c =
    let l = signal_in c.args.plan.now c.args.programs.now c.args.run.now c.requires.run c.programs_are_safe.ensures.safe c.args.lane c.args.action c.requires.at in
    let r = told_on c.args.plan.now c.args.programs.now c.args.run.now c.requires.run c.args.lane c.args.action c.advance.new.places.items c.tell.new.signals.items c.mark.new.marks.items _ l c.requires.at c.advance.ensures c.tell.ensures.items c.mark.ensures c.tell.ensures.capacity in
    record { run = r.1; step = r.0 }
