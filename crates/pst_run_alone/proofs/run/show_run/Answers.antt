use Rattle.pst_model.specs.ModelView.{view_model}
use Rattle.pst_run_alone.proofs.Shows.{whole_shows, end_shows}
use Rattle.pst_run_alone.proofs.run.show_run.Goals as goal

pub returns-in-Ok : goal.returns-in-Ok
returns-in-Ok g c =
    whole_shows c.args.names.now (view_model c.args.model.now) c.args.scenario.now c.args.plan.now _ _ _ _ c.in-Ok.book c.show_whole.result c.in-Ok.ensures.runs c.in-Ok.ensures.narrow c.show_whole.ensures

pub returns-in-Err : goal.returns-in-Err
returns-in-Err g c =
    end_shows c.args.names.now (view_model c.args.model.now) c.args.scenario.now c.args.plan.now _ _ _ _ c.in-Err.stop c.show_end.result c.in-Err.ensures.runs c.in-Err.ensures.narrow c.show_end.ensures
