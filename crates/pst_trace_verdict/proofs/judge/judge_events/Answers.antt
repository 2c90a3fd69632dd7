use Rattle.std.proofs.Common.{subst}
use Rattle.pst_trace_verdict.proofs.Answering.{block_breaks, whole_ends_wrong, prefix_ends_wrong, ends_whole, ends_prefix}
use Rattle.pst_trace_verdict.proofs.judge.judge_events.Goals as goal

pub returns-then-not-fits : goal.returns-then-not-fits
returns-then-not-fits c =
    whole_ends_wrong c.args.scenario.now c.args.lines c.args.events.now c.args.last c.check.result c.fits.result c.count_blocks.result c.breach-then-not-fits.result
    c.in-Whole.is c.check.ensures c.fits.ensures c.if-not-fits.true c.count_blocks.ensures c.breach-then-not-fits.ensures

pub returns-then-not-fits-2 : goal.returns-then-not-fits-2
returns-then-not-fits-2 c =
    prefix_ends_wrong c.args.scenario.now c.args.lines c.args.events.now c.args.last c.check.result c.fits-in-Prefix.result c.count_blocks.result c.breach-then-not-fits-2.result
    c.in-Prefix.is c.check.ensures c.fits-in-Prefix.ensures c.if-not-fits-2.true c.count_blocks.ensures c.breach-then-not-fits-2.ensures

pub returns-in-Illegal : goal.returns-in-Illegal
returns-in-Illegal c =
    block_breaks c.args.scenario.now c.args.lines c.args.events.now c.args.last c.check.result c.in-Illegal.block c.in-Illegal.rule c.breach.result c.in-Illegal.is c.check.ensures c.breach.ensures

pub returns-else-not-fits : goal.returns-else-not-fits
returns-else-not-fits c =
    ends_whole c.args.scenario.now c.args.lines c.args.events.now c.args.last c.check.result c.fits.result c.in-Whole.is c.check.ensures c.fits.ensures c.if-not-fits.false

pub returns-else-not-fits-2 : goal.returns-else-not-fits-2
returns-else-not-fits-2 c =
    ends_prefix c.args.scenario.now c.args.lines c.args.events.now c.args.last c.check.result c.fits-in-Prefix.result c.in-Prefix.is c.check.ensures c.fits-in-Prefix.ensures c.if-not-fits-2.false
