use Rattle.pst_by_rule.proofs.Noted.{room_at, did_start}
use Rattle.pst_by_rule.proofs.starts.follow_start.Goals as goal

pub note_start-requires-clause-room : goal.note_start-requires-clause-room
note_start-requires-clause-room c =
    let k = c.requires.counted in
    let may = c.may_join.ensures.0 c.if-not-may_join.false in
    room_at c.args.plan.now k.0 c.args.started.now k.1 c.args.awaited.now c.args.in_the_way.now k.2 c.args.holders.now k.3 c.args.act c.requires.act_in c.in-Some.lane may.0 c.in-Some.ensures.below c.in-Some.ensures.free

pub returns : goal.returns
returns c =
    λ t ended next counted.
    let may = c.may_join.ensures.0 c.if-not-may_join.false in
    did_start c.args.plan.now t c.args.started.now ended c.args.awaited.now c.args.in_the_way.now next c.args.holders.now counted c.args.act c.requires.act_in c.args.event c.in-Some.lane
    c.note_start.new.in_the_way c.note_start.new.started c.note_start.new.holders c.in-Some.ensures may.0 may.1 may.2 c.note_start.ensures.started c.note_start.auto.in_the_way c.note_start.ensures.in_the_way c.note_start.ensures.holders
