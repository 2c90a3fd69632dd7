use Rattle.std.proofs.Common.{◌≡◌, ◌+◌, ◌<◌, ℕ, length, get_or, Some, slice_get, length-set, sym, subst, arith}
use Rattle.std.specs.Global.{Vec}
use Rattle.std.proofs.lemmas.Option.{slice_get-get_or}
use Rattle.pst_programs.specs.declared.program.Instruction.{Instruction}
use Rattle.pst_static.specs.Awaiting.{AreHeard}
use Rattle.pst_static.proofs.Drafting.{drafting_on, lane_in, a_in, once_told, have_places, dealt_few}
use Rattle.pst_static.proofs.drafts.draft_one.Goals as goal

pub bounds-heard-lane : goal.bounds-heard-lane
bounds-heard-lane c =
    let p = c.args.plan.now in
    let dealt = c.args.dealt.now in
    let at = c.args.at in
    let d = c.requires.drafting in
    let lanes = length c.args.drafts.now in
    let x = get_or dealt at (0, 0) in
    let is : slice_get dealt at ≡ Some (x.0, x.1) = slice_get-get_or dealt at (0, 0) c.requires.at_in in
    let low = lane_in c.requires.planned.0 p c.requires.planned.1 c.whole_is_sound.ensures.clash c.members_are_those.ensures c.groups_are_whole.ensures.whole lanes dealt at c.args.latest.now c.args.heard.now c.args.drafts.now c.args.told.now d x.0 x.1 is in
    let n = d.many_heard in
    omega (arith, low, n)

pub bounds-drafts-lane : goal.bounds-drafts-lane
bounds-drafts-lane c =
    let p = c.args.plan.now in
    let dealt = c.args.dealt.now in
    let at = c.args.at in
    let d = c.requires.drafting in
    let lanes = length c.args.drafts.now in
    let x = get_or dealt at (0, 0) in
    let is : slice_get dealt at ≡ Some (x.0, x.1) = slice_get-get_or dealt at (0, 0) c.requires.at_in in
    lane_in c.requires.planned.0 p c.requires.planned.1 c.whole_is_sound.ensures.clash c.members_are_those.ensures c.groups_are_whole.ensures.whole lanes dealt at c.args.latest.now c.args.heard.now c.args.drafts.now c.args.told.now d x.0 x.1 is

pub write_awaits-requires-clause-once : goal.write_awaits-requires-clause-once
write_awaits-requires-clause-once c =
    let p = c.args.plan.now in
    let dealt = c.args.dealt.now in
    let at = c.args.at in
    let d = c.requires.drafting in
    let lanes = length c.args.drafts.now in
    let x = get_or dealt at (0, 0) in
    let is : slice_get dealt at ≡ Some (x.0, x.1) = slice_get-get_or dealt at (0, 0) c.requires.at_in in
    once_told c.requires.planned.0 p c.requires.planned.1 c.whole_is_sound.ensures.clash c.members_are_those.ensures c.groups_are_whole.ensures.whole lanes dealt at c.args.latest.now c.args.heard.now c.args.drafts.now c.args.told.now d x.0 x.1 is

pub write_awaits-requires-clause-places : goal.write_awaits-requires-clause-places
write_awaits-requires-clause-places c =
    let p = c.args.plan.now in
    let dealt = c.args.dealt.now in
    let at = c.args.at in
    let d = c.requires.drafting in
    let lanes = length c.args.drafts.now in
    let x = get_or dealt at (0, 0) in
    let is : slice_get dealt at ≡ Some (x.0, x.1) = slice_get-get_or dealt at (0, 0) c.requires.at_in in
    let l = c.requires.at_in in
    have_places p lanes dealt at x.0 c.args.latest.now (omega (arith, l)) (a_in c.requires.planned.0 p c.requires.planned.1 c.whole_is_sound.ensures.clash c.members_are_those.ensures c.groups_are_whole.ensures.whole lanes dealt at c.args.latest.now c.args.heard.now c.args.drafts.now c.args.told.now d x.0 x.1 is) d.latest_are

pub write_awaits-requires-clause-heard : goal.write_awaits-requires-clause-heard
write_awaits-requires-clause-heard c =
    let p = c.args.plan.now in
    let dealt = c.args.dealt.now in
    let at = c.args.at in
    let d = c.requires.drafting in
    let lanes = length c.args.drafts.now in
    let x = get_or dealt at (0, 0) in
    let is : slice_get dealt at ≡ Some (x.0, x.1) = slice_get-get_or dealt at (0, 0) c.requires.at_in in
    let low = lane_in c.requires.planned.0 p c.requires.planned.1 c.whole_is_sound.ensures.clash c.members_are_those.ensures c.groups_are_whole.ensures.whole lanes dealt at c.args.latest.now c.args.heard.now c.args.drafts.now c.args.told.now d x.0 x.1 is in
    let n = d.many_heard in
    let row : Vec ℕ = get_or c.args.heard.now x.1 c.index-heard-lane.result in
    let draft : Vec Instruction = get_or c.args.drafts.now x.1 c.index-drafts-lane.result in
    subst (λ k. AreHeard k dealt draft.items row.items) (sym d.latest_are.many)
    (d.heard_are x.1 row draft (slice_get-get_or c.args.heard.now x.1 c.index-heard-lane.result (omega (arith, low, n))) (slice_get-get_or c.args.drafts.now x.1 c.index-drafts-lane.result low))

pub add_run-requires : goal.add_run-requires
add_run-requires c =
    let p = c.args.plan.now in
    let dealt = c.args.dealt.now in
    let at = c.args.at in
    let d = c.requires.drafting in
    let lanes = length c.args.drafts.now in
    let x = get_or dealt at (0, 0) in
    let is : slice_get dealt at ≡ Some (x.0, x.1) = slice_get-get_or dealt at (0, 0) c.requires.at_in in
    let low = lane_in c.requires.planned.0 p c.requires.planned.1 c.whole_is_sound.ensures.clash c.members_are_those.ensures c.groups_are_whole.ensures.whole lanes dealt at c.args.latest.now c.args.heard.now c.args.drafts.now c.args.told.now d x.0 x.1 is in
    let n = length-set c.args.drafts.now x.1 c.write_awaits.new.draft in
    omega (arith, low, n)

pub overflow_cast-at : goal.overflow_cast-at
overflow_cast-at c =
    let p = c.args.plan.now in
    let dealt = c.args.dealt.now in
    let at = c.args.at in
    let d = c.requires.drafting in
    let lanes = length c.args.drafts.now in
    let x = get_or dealt at (0, 0) in
    let is : slice_get dealt at ≡ Some (x.0, x.1) = slice_get-get_or dealt at (0, 0) c.requires.at_in in
    let few = dealt_few dealt (length c.args.told.now) (once_told c.requires.planned.0 p c.requires.planned.1 c.whole_is_sound.ensures.clash c.members_are_those.ensures c.groups_are_whole.ensures.whole lanes dealt at c.args.latest.now c.args.heard.now c.args.drafts.now c.args.told.now d x.0 x.1 is) in
    let n = d.are.many_told in
    let l = c.requires.at_in in
    let e = c.len-count.ensures.is in
    let f = c.len-count.type_inv in
    record { fits = let m : at < 4294967296 = omega (arith, few, n, l, e, f) in m }

pub overflow_add-at : goal.overflow_add-at
overflow_add-at c =
    let p = c.args.plan.now in
    let dealt = c.args.dealt.now in
    let at = c.args.at in
    let d = c.requires.drafting in
    let lanes = length c.args.drafts.now in
    let x = get_or dealt at (0, 0) in
    let is : slice_get dealt at ≡ Some (x.0, x.1) = slice_get-get_or dealt at (0, 0) c.requires.at_in in
    let few = dealt_few dealt (length c.args.told.now) (once_told c.requires.planned.0 p c.requires.planned.1 c.whole_is_sound.ensures.clash c.members_are_those.ensures c.groups_are_whole.ensures.whole lanes dealt at c.args.latest.now c.args.heard.now c.args.drafts.now c.args.told.now d x.0 x.1 is) in
    let n = d.are.many_told in
    let l = c.requires.at_in in
    let e = c.len-count.ensures.is in
    let f = c.len-count.type_inv in
    record { fits = let m : at + 1 < 4294967296 = omega (arith, few, n, l, e, f) in m }

pub stamp_lane-requires-clause-lane_in : goal.stamp_lane-requires-clause-lane_in
stamp_lane-requires-clause-lane_in c =
    let p = c.args.plan.now in
    let dealt = c.args.dealt.now in
    let at = c.args.at in
    let d = c.requires.drafting in
    let lanes = length c.args.drafts.now in
    let x = get_or dealt at (0, 0) in
    let is : slice_get dealt at ≡ Some (x.0, x.1) = slice_get-get_or dealt at (0, 0) c.requires.at_in in
    let low = lane_in c.requires.planned.0 p c.requires.planned.1 c.whole_is_sound.ensures.clash c.members_are_those.ensures c.groups_are_whole.ensures.whole lanes dealt at c.args.latest.now c.args.heard.now c.args.drafts.now c.args.told.now d x.0 x.1 is in
    let n = d.latest_are.many in
    omega (arith, low, n)

pub stamp_lane-requires-clause-a_in : goal.stamp_lane-requires-clause-a_in
stamp_lane-requires-clause-a_in c =
    let p = c.args.plan.now in
    let dealt = c.args.dealt.now in
    let at = c.args.at in
    let d = c.requires.drafting in
    let lanes = length c.args.drafts.now in
    let x = get_or dealt at (0, 0) in
    let is : slice_get dealt at ≡ Some (x.0, x.1) = slice_get-get_or dealt at (0, 0) c.requires.at_in in
    a_in c.requires.planned.0 p c.requires.planned.1 c.whole_is_sound.ensures.clash c.members_are_those.ensures c.groups_are_whole.ensures.whole lanes dealt at c.args.latest.now c.args.heard.now c.args.drafts.now c.args.told.now d x.0 x.1 is

pub returns-clause-drafting : goal.returns-clause-drafting
returns-clause-drafting c =
    let p = c.args.plan.now in
    let dealt = c.args.dealt.now in
    let at = c.args.at in
    let d = c.requires.drafting in
    let lanes = length c.args.drafts.now in
    let x = get_or dealt at (0, 0) in
    let is : slice_get dealt at ≡ Some (x.0, x.1) = slice_get-get_or dealt at (0, 0) c.requires.at_in in
    let low = lane_in c.requires.planned.0 p c.requires.planned.1 c.whole_is_sound.ensures.clash c.members_are_those.ensures c.groups_are_whole.ensures.whole lanes dealt at c.args.latest.now c.args.heard.now c.args.drafts.now c.args.told.now d x.0 x.1 is in
    let n = d.many_heard in
    let row : Vec ℕ = get_or c.args.heard.now x.1 c.index-heard-lane.result in
    let draft : Vec Instruction = get_or c.args.drafts.now x.1 c.index-drafts-lane.result in
    drafting_on c.requires.planned.0 p c.requires.planned.1 c.whole_is_sound.ensures.clash c.members_are_those.ensures c.groups_are_whole.ensures.whole lanes dealt at c.args.latest.now c.args.heard.now c.args.drafts.now c.args.told.now d x.0 x.1 is row (slice_get-get_or c.args.heard.now x.1 c.index-heard-lane.result (omega (arith, low, n))) draft (slice_get-get_or c.args.drafts.now x.1 c.index-drafts-lane.result low)
    c.write_awaits.new.draft c.write_awaits.new.told c.in_ok-write_awaits.ensures.written c.write_awaits.new.heard
    (subst (λ k. AreHeard k dealt c.write_awaits.new.draft.items c.write_awaits.new.heard.items) d.latest_are.many c.in_ok-write_awaits.ensures.heard)
    c.stamp_lane.new.latest c.add_run.new.drafts c.stamp_lane.ensures c.in_ok-add_run.ensures
