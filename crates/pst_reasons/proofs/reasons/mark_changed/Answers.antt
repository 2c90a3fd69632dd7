use Rattle.std.proofs.Common.{arith}
use Rattle.pst_reasons.proofs.MarkLemmas.{none_yet, one_more, all_marked, in_row}
use Rattle.pst_reasons.proofs.reasons.mark_changed.Goals as goal

pub loop-variable-init : goal.loop-variable-init
loop-variable-init c = none_yet c.args.variables.now c.args.firsts.now c.args.mark c.args.marks.now

pub mark_if_changed-requires : goal.mark_if_changed-requires
mark_if_changed-requires c =
    let below = c.requires _ (in_row c.args.variables.now c.loop-variable.variable-index c.loop-variable-test.true) in
    let long = c.loop-variable.invariant.long in
    omega (arith, below, long)

pub loop-variable-preserved : goal.loop-variable-preserved
loop-variable-preserved c = one_more c.args.variables.now c.args.firsts.now c.args.mark c.loop-variable.variable-index c.args.marks.now c.loop-variable.marks c.mark_if_changed.new.marks c.mark_if_changed.ensures c.loop-variable.invariant

pub returns : goal.returns
returns c = all_marked c.args.variables.now c.args.firsts.now c.args.mark c.loop-variable.variable-index c.args.marks.now c.loop-variable.marks c.loop-variable-test.false c.loop-variable.invariant
