use Rattle.pst_model.specs.ModelView.{view_model}
use Rattle.pst_model_answers.proofs.Runs.{few_events, counts_replied, end_replied}
use Rattle.pst_model_answers.proofs.counts.reply_to_counts.Goals as goal

pub run_one-requires-clause-sound : goal.run_one-requires-clause-sound
run_one-requires-clause-sound g c = c.requires.sound

pub run_one-requires-clause-types : goal.run_one-requires-clause-types
run_one-requires-clause-types g c = c.requires.types

pub run_one-requires-clause-links : goal.run_one-requires-clause-links
run_one-requires-clause-links g c = c.requires.links

pub run_one-requires-clause-planned : goal.run_one-requires-clause-planned
run_one-requires-clause-planned g c = c.requires.planned

pub run_one-requires-clause-small : goal.run_one-requires-clause-small
run_one-requires-clause-small g c = c.requires.small

pub reply_to_whole-requires-clause-small : goal.reply_to_whole-requires-clause-small
reply_to_whole-requires-clause-small g c = c.requires.small

pub reply_to_whole-requires-clause-few : goal.reply_to_whole-requires-clause-few
reply_to_whole-requires-clause-few g c =
    few_events c.args.names.now (view_model c.args.model.now) c.args.scenario.now c.args.plan.now _ c.in-Ok.book c.trace.result.now c.in-Ok.ensures.runs c.trace.ensures.fits c.requires.small

pub returns-in-Ok : goal.returns-in-Ok
returns-in-Ok g c =
    counts_replied c.args.names.now (view_model c.args.model.now) c.args.scenario.now c.args.plan.now _ c.args.size c.in-Ok.book c.trace.result.now c.reply_to_whole.result c.in-Ok.ensures.runs c.in-Ok.ensures.narrow c.trace.ensures.value c.reply_to_whole.ensures

pub returns-in-Err : goal.returns-in-Err
returns-in-Err g c =
    end_replied c.args.names.now (view_model c.args.model.now) c.args.scenario.now c.args.plan.now _ c.args.size c.in-Err.stop c.reply_to_end.result c.in-Err.ensures.runs c.in-Err.ensures.narrow c.reply_to_end.ensures
