use Rattle.pst_check.proofs.Places.{and_then}
use Rattle.pst_check.proofs.Meanings.{statement, before_inside}
use Rattle.pst_check.proofs.judge.breaks_statements.Goals as goal

pub returns : goal.returns
returns c =
    let s = c.args.scenario.now in
    and_then c.any_statement_open.ensures (statement s c.args.past.now c.args.part.now
    (before_inside s c.args.past.now c.args.part.now c.args.plan.now c.requires.planned c.requires.preorder c.requires.one_leaf c.requires.inside c.before_is_never_itself.ensures c.whole_is_sound.ensures.inside))
