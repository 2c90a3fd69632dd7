use Rattle.pst_model.specs.ModelView.{view_model}
use Rattle.pst_sweep.proofs.Rows.{types_there, few_acts, found_is_row, none_is_row, spent_is_row}
use Rattle.pst_sweep.proofs.sweeping.search_row.Goals as goal

pub found_row-requires-clause-types : goal.found_row-requires-clause-types
found_row-requires-clause-types c = types_there (view_model c.args.model.now) c.in-Ok.scenario c.in-Ok.ensures.0.reads.legal.shape

pub found_row-requires-clause-few : goal.found_row-requires-clause-few
found_row-requires-clause-few c = few_acts c.whole_readings_are_built.ensures.built (view_model c.args.model.now) c.args.root c.args.seed c.args.infer c.in-Ok.scenario c.in-Ok.ensures.0

pub returns-in-Ok : goal.returns-in-Ok
returns-in-Ok c = found_is_row (view_model c.args.model.now) c.args.root c.args.infer c.args.budget c.args.seed c.in-Ok.scenario c.in-Ok.ensures.0 c.found_row.result c.found_row.ensures

pub returns-in-Err-NoScenario : goal.returns-in-Err-NoScenario
returns-in-Err-NoScenario c =
    none_is_row (view_model c.args.model.now) c.args.root c.args.infer c.args.budget c.args.seed c.in-Err-NoScenario.field-0 c.in-Err-NoScenario.field-0-is c.in-Err-NoScenario.ensures c.ended_row.result c.ended_row.ensures

pub returns-in-Err-Budget : goal.returns-in-Err-Budget
returns-in-Err-Budget c =
    spent_is_row (view_model c.args.model.now) c.args.root c.args.infer c.args.budget c.args.seed c.in-Err-Budget.field-0 c.in-Err-Budget.level c.in-Err-Budget.field-0-is c.in-Err-Budget.ensures
    c.ended_row-in-Err-Budget.result c.ended_row-in-Err-Budget.ensures
