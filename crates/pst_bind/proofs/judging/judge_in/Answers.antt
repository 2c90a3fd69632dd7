use Rattle.std.proofs.Common.{◌+◌, drop, map}
use Rattle.std.specs.List.{enumerate_from}
use Rattle.std.proofs.lemmas.Option.{slice_get-get_or}
use Rattle.pst_bind.specs.Judging.{choice_for}
use Rattle.pst_bind.specs.ListedNeeds.{need_of, needs_by}
use Rattle.pst_bind.specs.Wants.{need_in}
use Rattle.pst_bind.proofs.Judges.{onward, arrived_by, need_step, needs_end}
use Rattle.pst_bind.proofs.judging.judge_in.Goals as goal

pub loop-at-preserved : goal.loop-at-preserved
loop-at-preserved c =
    let choice = choice_for c.args.binds.now.index.now c.args.binds.now.explicit.now c.args.binds.now.defaults.now c.args.binds.now.table.now in
    let ws = c.args.wanted.now in
    let at = c.loop-at.at in
    let of = need_of c.args.number c.args.action.now c.args.instance in
    onward choice _ (map of (enumerate_from (at + 1) (map need_in (drop (at + 1) ws)))) (map of (enumerate_from at (map need_in (drop at ws)))) (needs_by c.args.number c.args.action.now c.args.instance (map need_in ws))
    c.loop-at.judged c.judge_need.new.judged c.args.judged.now c.in_ok-judge_need.ensures
    (need_step c.args.number c.args.action.now c.args.instance ws at c.in_ok-reference.reference _ c.loop-at-test.true (slice_get-get_or ws at _ c.loop-at-test.true) c.in_ok-reference.ensures)
    c.loop-at.invariant

pub returns : goal.returns
returns c =
    let choice = choice_for c.args.binds.now.index.now c.args.binds.now.explicit.now c.args.binds.now.defaults.now c.args.binds.now.table.now in
    let ws = c.args.wanted.now in
    let at = c.loop-at.at in
    let of = need_of c.args.number c.args.action.now c.args.instance in
    arrived_by choice (map of (enumerate_from at (map need_in (drop at ws)))) (needs_by c.args.number c.args.action.now c.args.instance (map need_in ws)) c.loop-at.judged c.args.judged.now
    (needs_end c.args.number c.args.action.now c.args.instance ws at c.loop-at-test.false) c.loop-at.invariant
