use Rattle.pst_model.specs.ModelView.{view_model}
use Rattle.pst_shared_answers.proofs.Runs.{few_events, counts_whole, counts_stopped}
use Rattle.pst_shared_answers.proofs.run.reply_to_counts.Goals as goal

pub run_many-requires-clause-sound : goal.run_many-requires-clause-sound
run_many-requires-clause-sound g c = λ names lives. c.requires.ready.sound

pub run_many-requires-clause-types : goal.run_many-requires-clause-types
run_many-requires-clause-types g c = λ names lives. c.requires.ready.types

pub run_many-requires-clause-links : goal.run_many-requires-clause-links
run_many-requires-clause-links g c = λ names lives. c.requires.ready.links

pub run_many-requires-clause-planned : goal.run_many-requires-clause-planned
run_many-requires-clause-planned g c = λ names lives. c.requires.ready.planned

pub run_many-requires-clause-small : goal.run_many-requires-clause-small
run_many-requires-clause-small g c = λ names lives. c.requires.ready.small

pub reply_to_whole-requires-clause-small : goal.reply_to_whole-requires-clause-small
reply_to_whole-requires-clause-small g c = c.requires.ready.small

pub reply_to_whole-requires-clause-few : goal.reply_to_whole-requires-clause-few
reply_to_whole-requires-clause-few g c =
    few_events g.T.Target.calls g.T.Target.faults c.args.names.now (view_model c.args.model.now) c.args.scenario.now c.args.plan.now c.args.count c.args.lanes.now.items c.run_many.new.lanes.items c.requires.several.0 c.requires.lanes c.in-Ok.ensures.as_many c.in-Ok.ensures.others c.prefixes_are_legal.ensures
    c.in-Ok.book c.trace.result.now c.in-Ok.ensures.runs c.trace.ensures.fits c.requires.ready.small

pub returns-in-Ok-clause-replies : goal.returns-in-Ok-clause-replies
returns-in-Ok-clause-replies g c =
    counts_whole g.T.Target.calls g.T.Target.faults c.args.names.now (view_model c.args.model.now) c.args.scenario.now c.args.plan.now c.args.count c.args.lanes.now.items c.run_many.new.lanes.items c.requires.several.0 c.requires.lanes c.in-Ok.ensures.as_many c.in-Ok.ensures.others c.prefixes_are_legal.ensures
    c.args.size c.in-Ok.book c.trace.result.now c.reply_to_whole.result c.in-Ok.ensures.runs c.in-Ok.ensures.narrow c.trace.ensures.value c.reply_to_whole.ensures

pub returns-in-Err-clause-replies : goal.returns-in-Err-clause-replies
returns-in-Err-clause-replies g c =
    counts_stopped g.T.Target.calls g.T.Target.faults c.args.names.now (view_model c.args.model.now) c.args.scenario.now c.args.plan.now c.args.count c.args.lanes.now.items c.run_many.new.lanes.items c.requires.several.0 c.requires.lanes c.in-Err.ensures.as_many c.in-Err.ensures.others c.prefixes_are_legal.ensures
    c.args.size c.in-Err.stop c.reply_to_end.result c.in-Err.ensures.runs c.in-Err.ensures.narrow c.reply_to_end.ensures
