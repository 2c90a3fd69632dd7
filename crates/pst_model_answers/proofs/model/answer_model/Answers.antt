use Rattle.std.proofs.Common.{[], ◌∷◌, refl}
use Rattle.pst_model.specs.ModelView.{view_model}
use Rattle.pst_run_alone.specs.Lanes.{lane}
use Rattle.pst_model_answers.proofs.Legality.{ready}
use Rattle.pst_model_answers.proofs.Runs.{one_uncalled}
use Rattle.pst_model_answers.proofs.Owed.{end_owed, found_owed, sought}
use Rattle.pst_model_answers.proofs.model.answer_model.Goals as goal

pub reply_to_found-requires-clause-ready : goal.reply_to_found-requires-clause-ready
reply_to_found-requires-clause-ready g c =
    ready (view_model c.args.model.now) c.args.root c.args.task.seed c.args.task.infer c.in-Ok.scenario c.in-Ok.plan c.whole_readings_are_built.ensures.built c.requires.sound c.in-Ok.ensures.0 c.in-Ok.ensures.1

pub reply_to_found-requires-clause-sought : goal.reply_to_found-requires-clause-sought
reply_to_found-requires-clause-sought g c = sought c.args.task.work c.requires.unswept

pub returns-in-Ok-clause-owed : goal.returns-in-Ok-clause-owed
returns-in-Ok-clause-owed g c =
    found_owed c.args.names.now (view_model c.args.model.now) c.args.root c.args.task c.args.trace.now _ c.in-Ok.scenario c.in-Ok.plan c.reply_to_found.result c.in-Ok.ensures c.reply_to_found.ensures

pub returns-in-Err-clause-owed : goal.returns-in-Err-clause-owed
returns-in-Err-clause-owed g c =
    let l = lane (g.T.Target.calls c.args.lane.now) (g.T.Target.calls c.args.lane.now) (g.T.Target.faults c.args.lane.now) (g.T.Target.faults c.args.lane.now) in
    end_owed c.args.names.now (view_model c.args.model.now) c.args.root c.args.task c.args.trace.now (l ∷ []) c.in-Err.end c.reply_to_search_end.result (sought c.args.task.work c.requires.unswept) (one_uncalled l (record { calls = refl; count = refl })) c.in-Err.ensures c.reply_to_search_end.ensures
