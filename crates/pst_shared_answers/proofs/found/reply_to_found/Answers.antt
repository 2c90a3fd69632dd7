use Rattle.std.proofs.Common.{length, sym, subst}
use Rattle.pst_model.specs.ModelView.{view_model}
use Rattle.pst_run_alone.specs.Lanes.{lanes_told}
use Rattle.pst_outcome.specs.declared.task.Work.{Work}
use Rattle.pst_outcome.specs.Tasks.{IsSeveral}
use Rattle.pst_shared_answers.specs.Replies.{RepliesOn}
use Rattle.pst_shared_answers.proofs.Runs.{several_run, enough_run, several_generated, enough_generated, behind_all}
use Rattle.pst_shared_answers.proofs.found.reply_to_found.Goals as goal

pub reply_to_run-requires-clause-ready : goal.reply_to_run-requires-clause-ready
reply_to_run-requires-clause-ready g c = λ names lives. c.requires.ready

pub reply_to_run-requires-clause-several : goal.reply_to_run-requires-clause-several
reply_to_run-requires-clause-several g c = λ names lives. several_run c.in-Run.count c.args.work c.in-Run.is c.requires.several c.requires.fits.0

pub reply_to_run-requires-clause-lanes : goal.reply_to_run-requires-clause-lanes
reply_to_run-requires-clause-lanes g c = λ names lives. enough_run c.in-Run.count (length c.args.lanes.now.items) c.args.work c.in-Run.is c.requires.fits.1

pub reply_to_counts-requires-clause-ready : goal.reply_to_counts-requires-clause-ready
reply_to_counts-requires-clause-ready g c = λ names lives. c.requires.ready

pub reply_to_counts-requires-clause-several : goal.reply_to_counts-requires-clause-several
reply_to_counts-requires-clause-several g c = λ names lives. several_generated c.in-Generate.size c.in-Generate.count c.args.work c.in-Generate.is c.requires.several c.requires.fits.0

pub reply_to_counts-requires-clause-lanes : goal.reply_to_counts-requires-clause-lanes
reply_to_counts-requires-clause-lanes g c = λ names lives. enough_generated c.in-Generate.size c.in-Generate.count (length c.args.lanes.now.items) c.args.work c.in-Generate.is c.requires.fits.1

pub returns-in-Run-clause-replies : goal.returns-in-Run-clause-replies
returns-in-Run-clause-replies g c = λ trace. subst (λ (w : Work). RepliesOn c.args.names.now (view_model c.args.model.now) c.args.scenario.now c.args.plan.now trace (lanes_told g.T.Target.calls g.T.Target.faults c.args.lanes.now.items c.reply_to_run.new.lanes.items) w c.reply_to_run.result) (sym c.in-Run.is) (c.reply_to_run.ensures.replies trace)

pub returns-in-Run-clause-others : goal.returns-in-Run-clause-others
returns-in-Run-clause-others g c =
    behind_all c.in-Run.count c.args.lanes.now.items c.reply_to_run.new.lanes.items (several_run c.in-Run.count c.args.work c.in-Run.is c.requires.several c.requires.fits.0).1 c.reply_to_run.ensures.others

pub returns-in-Generate-clause-replies : goal.returns-in-Generate-clause-replies
returns-in-Generate-clause-replies g c = λ trace. subst (λ (w : Work). RepliesOn c.args.names.now (view_model c.args.model.now) c.args.scenario.now c.args.plan.now trace (lanes_told g.T.Target.calls g.T.Target.faults c.args.lanes.now.items c.reply_to_counts.new.lanes.items) w c.reply_to_counts.result) (sym c.in-Generate.is) (c.reply_to_counts.ensures.replies trace)

pub returns-in-Generate-clause-others : goal.returns-in-Generate-clause-others
returns-in-Generate-clause-others g c =
    behind_all c.in-Generate.count c.args.lanes.now.items c.reply_to_counts.new.lanes.items (several_generated c.in-Generate.size c.in-Generate.count c.args.work c.in-Generate.is c.requires.several c.requires.fits.0).1
    c.reply_to_counts.ensures.others

pub unreachable-requires : goal.unreachable-requires
unreachable-requires g c = subst IsSeveral c.in-Solve.is c.requires.several

pub unreachable-requires-in-Check : goal.unreachable-requires-in-Check
unreachable-requires-in-Check g c = subst IsSeveral c.in-Check.is c.requires.several

pub unreachable-requires-in-Place : goal.unreachable-requires-in-Place
unreachable-requires-in-Place g c = subst IsSeveral c.in-Place.is c.requires.several

pub unreachable-requires-in-Static : goal.unreachable-requires-in-Static
unreachable-requires-in-Static g c = subst IsSeveral c.in-Static.is c.requires.several

pub unreachable-requires-in-Sweep : goal.unreachable-requires-in-Sweep
unreachable-requires-in-Sweep g c = subst IsSeveral c.in-Sweep.is c.requires.several
