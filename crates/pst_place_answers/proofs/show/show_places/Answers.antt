use Rattle.pst_model.specs.ModelView.{view_model}
use Rattle.pst_place_answers.proofs.show.show_places.Goals as goal

pub show_asks-requires-clause-asks : goal.show_asks-requires-clause-asks
show_asks-requires-clause-asks c =
    let law = c.asks_are_of_plan.ensures c.args.names.now (view_model c.args.model.now) c.args.scenario.now c.args.plan.now c.requires.planned.entries.many in
    rw (c.deref.ensures.value, c.in_ok-asks.ensures) law.0
