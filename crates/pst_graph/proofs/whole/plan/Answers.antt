use Rattle.pst_model.specs.ModelView.{view_model}
use Rattle.pst_graph.proofs.whole.plan.Goals as goal

pub plan_of-requires : goal.plan_of-requires
plan_of-requires c =
    let whole = c.requires in
    (c.whole_readings_are_built.ensures.built (view_model c.args.model.now) whole.root whole.seed c.args.scenario.now.level whole.choices c.args.scenario.now whole.reads).0
