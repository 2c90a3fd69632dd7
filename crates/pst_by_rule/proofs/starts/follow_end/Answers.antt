use Rattle.pst_by_rule.proofs.Noted.{awaited_at, in_the_way_at, did_end}
use Rattle.pst_by_rule.proofs.starts.follow_end.Goals as goal

pub note_end-requires-clause-some_awaited : goal.note_end-requires-clause-some_awaited
note_end-requires-clause-some_awaited c =
    let k = c.requires.counted in
    let r = c.runs.ensures.0 c.if-not-runs.false in
    awaited_at c.args.plan.now k.0 c.args.started.now c.args.ended.now c.args.awaited.now c.args.in_the_way.now k.1 c.args.holders.now k.2 c.args.act r.0 r.1 r.2

pub note_end-requires-clause-some_in_the_way : goal.note_end-requires-clause-some_in_the_way
note_end-requires-clause-some_in_the_way c =
    let k = c.requires.counted in
    let r = c.runs.ensures.0 c.if-not-runs.false in
    in_the_way_at c.args.plan.now k.0 c.args.started.now c.args.ended.now c.args.awaited.now c.args.in_the_way.now k.1 c.args.holders.now k.2 c.args.act r.0 r.1 r.2

pub returns : goal.returns
returns c =
    λ t next counted.
    let r = c.runs.ensures.0 c.if-not-runs.false in
    did_end c.args.plan.now t c.args.started.now c.args.ended.now c.args.awaited.now c.args.in_the_way.now next c.args.holders.now counted c.args.act r.0 r.1 r.2
    c.note_end.new.ended c.note_end.new.awaited c.note_end.new.in_the_way c.note_end.new.holders c.note_end.ensures.ended c.note_end.auto.awaited c.note_end.ensures.awaited c.note_end.auto.in_the_way c.note_end.ensures.in_the_way c.note_end.ensures.holders
