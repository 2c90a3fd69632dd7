use Rattle.pst_model.specs.ModelView.{view_model}
use Rattle.pst_run_alone.specs.Lanes.{lanes_told}
use Rattle.pst_model_answers.proofs.Legality.{ready}
use Rattle.pst_shared_answers.proofs.Told.{none_called}
use Rattle.pst_shared_answers.proofs.Runs.{found_owed, found_made, unfound_owed, unfound_made}
use Rattle.pst_shared_answers.proofs.model.answer_shared.Goals as goal

pub reply_to_found-requires-clause-ready : goal.reply_to_found-requires-clause-ready
reply_to_found-requires-clause-ready g c = λ names lives.
    ready (view_model c.args.model.now) c.args.root c.args.task.seed c.args.task.infer c.in-Ok.scenario c.in-Ok.plan c.whole_readings_are_built.ensures.built c.requires.sound c.in-Ok.ensures.0 c.in-Ok.ensures.1

pub returns-in-Ok-clause-owed : goal.returns-in-Ok-clause-owed
returns-in-Ok-clause-owed g c = λ trace.
    found_owed c.args.names.now (view_model c.args.model.now) c.args.root c.args.task (lanes_told g.T.Target.calls g.T.Target.faults c.args.lanes.now.items c.reply_to_found.new.lanes.items)
    c.in-Ok.scenario c.in-Ok.plan c.reply_to_found.result c.in-Ok.ensures c.reply_to_found.ensures.replies trace

pub returns-in-Ok-clause-memory : goal.returns-in-Ok-clause-memory
returns-in-Ok-clause-memory g c =
    found_made c.args.names.now (view_model c.args.model.now) c.args.root c.args.task (lanes_told g.T.Target.calls g.T.Target.faults c.args.lanes.now.items c.reply_to_found.new.lanes.items)
    c.in-Ok.scenario c.in-Ok.plan c.reply_to_found.result c.reply_to_found.ensures.replies

pub returns-in-Err-clause-owed : goal.returns-in-Err-clause-owed
returns-in-Err-clause-owed g c = λ trace.
    unfound_owed c.args.names.now (view_model c.args.model.now) c.args.root c.args.task (lanes_told g.T.Target.calls g.T.Target.faults c.args.lanes.now.items c.args.lanes.now.items)
    c.in-Err.end c.reply_to_search_end.result c.requires.several (none_called g.T.Target.calls g.T.Target.faults c.args.lanes.now.items) c.in-Err.ensures c.reply_to_search_end.ensures trace

pub returns-in-Err-clause-memory : goal.returns-in-Err-clause-memory
returns-in-Err-clause-memory g c =
    unfound_made (lanes_told g.T.Target.calls g.T.Target.faults c.args.lanes.now.items c.args.lanes.now.items) c.reply_to_search_end.result (none_called g.T.Target.calls g.T.Target.faults c.args.lanes.now.items)
