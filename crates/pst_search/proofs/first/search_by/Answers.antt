use Rattle.pst_model.specs.ModelView.{view_model}
use Rattle.pst_search.proofs.Ends.{none_told, budget_told, found_whole, found_first}
use Rattle.pst_search.proofs.first.search_by.Goals as goal

pub search_levels-requires-clause-facts : goal.search_levels-requires-clause-facts
search_levels-requires-clause-facts c = let r = c.args.reading.now in c.place_facts_hold.ensures (view_model r.model) r.root r.seed

pub search_levels-requires-clause-sound : goal.search_levels-requires-clause-sound
search_levels-requires-clause-sound c = c.requires.sound

pub returns-in-NoScenario : goal.returns-in-NoScenario
returns-in-NoScenario c =
    let r = c.args.reading.now in
    none_told r.model r.root r.seed c.args.infer c.some_lists-most.result r c.search_levels.new.walker c.in_ok-outcome.outcome c.requires.begun c.in_ok-outcome.ensures c.in-NoScenario.is

pub returns-in-Budget : goal.returns-in-Budget
returns-in-Budget c =
    let r = c.args.reading.now in
    budget_told r.model r.root r.seed c.args.infer c.some_lists-most.result r c.search_levels.new.walker c.in_ok-outcome.outcome c.requires.begun c.in_ok-outcome.ensures c.in-Budget.level c.args.budget c.spent.result c.in-Budget.is
    c.some_lists-most.ensures.same c.spent.ensures

pub found-requires : goal.found-requires
found-requires c =
    let r = c.args.reading.now in
    found_whole r.model r.root r.seed c.args.infer c.some_lists-most.result r c.search_levels.new.walker c.in_ok-outcome.outcome c.requires.begun c.in_ok-outcome.ensures c.in-Found.is

pub returns-in_ok-found-in-Found : goal.returns-in_ok-found-in-Found
returns-in_ok-found-in-Found c =
    let r = c.args.reading.now in
    found_first r.model r.root r.seed c.args.infer c.some_lists-most.result r c.search_levels.new.walker c.in_ok-outcome.outcome c.requires.begun c.in_ok-outcome.ensures c.args.budget c.in_ok-found-in-Found.found c.in-Found.is
    c.in_ok-found-in-Found.ensures
