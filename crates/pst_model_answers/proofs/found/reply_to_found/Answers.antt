use Rattle.std.proofs.Common.{refl, subst}
use Rattle.pst_model.specs.ModelView.{view_model}
use Rattle.pst_outcome.specs.Tasks.{FitsLanes}
use Rattle.pst_outcome.specs.Models.{IsSought}
use Rattle.pst_model_answers.proofs.Runs.{run_on_one, generated_on_one, solved_replied, check_replied, place_replied, static_replied, replied_as}
use Rattle.pst_model_answers.proofs.found.reply_to_found.Goals as goal

pub reply_to_solve-requires : goal.reply_to_solve-requires
reply_to_solve-requires g c = c.requires.ready.small

pub unreachable-requires : goal.unreachable-requires
unreachable-requires g c = subst IsSought c.in-Sweep.is c.requires.sought

pub returns-in-Run : goal.returns-in-Run
returns-in-Run g c =
    run_on_one c.args.names.now (view_model c.args.model.now) c.args.scenario.now c.args.plan.now _ c.args.trace.now c.args.work _ c.reply_to_run.result c.in-Run.is c.requires.alone (c.reply_to_run.ensures c.args.trace.now)

pub returns-in-Solve : goal.returns-in-Solve
returns-in-Solve g c =
    replied_as c.args.names.now (view_model c.args.model.now) c.args.scenario.now c.args.plan.now _ c.args.trace.now c.args.work _ c.reply_to_solve.result c.in-Solve.is
    (solved_replied c.args.names.now (view_model c.args.model.now) c.args.scenario.now c.args.plan.now _ c.reply_to_solve.result (record { calls = refl; count = refl }) c.reply_to_solve.ensures c.args.trace.now)

pub returns-in-Check : goal.returns-in-Check
returns-in-Check g c =
    replied_as c.args.names.now (view_model c.args.model.now) c.args.scenario.now c.args.plan.now _ c.args.trace.now c.args.work _ c.reply_to_check.result c.in-Check.is
    (check_replied c.args.names.now (view_model c.args.model.now) c.args.scenario.now c.args.plan.now _ c.args.trace.now c.reply_to_check.result (record { calls = refl; count = refl }) c.reply_to_check.ensures)

pub returns-in-Generate : goal.returns-in-Generate
returns-in-Generate g c =
    generated_on_one c.args.names.now (view_model c.args.model.now) c.args.scenario.now c.args.plan.now _ c.args.trace.now c.args.work _ _ c.reply_to_counts.result c.in-Generate.is c.requires.alone (c.reply_to_counts.ensures c.args.trace.now)

pub reply_to_place-requires-clause-ready : goal.reply_to_place-requires-clause-ready
reply_to_place-requires-clause-ready g c = c.requires.ready

pub reply_to_place-requires-clause-room : goal.reply_to_place-requires-clause-room
reply_to_place-requires-clause-room g c = subst (FitsLanes 1) c.in-Place.is c.requires.alone

pub returns-in-Place : goal.returns-in-Place
returns-in-Place g c =
    replied_as c.args.names.now (view_model c.args.model.now) c.args.scenario.now c.args.plan.now _ c.args.trace.now c.args.work _ c.reply_to_place.result c.in-Place.is
    (place_replied c.args.names.now (view_model c.args.model.now) c.args.scenario.now c.args.plan.now _ c.in-Place.space c.reply_to_place.result (record { calls = refl; count = refl }) c.reply_to_place.ensures c.args.trace.now)

pub reply_to_static-requires-clause-ready : goal.reply_to_static-requires-clause-ready
reply_to_static-requires-clause-ready g c = c.requires.ready

pub reply_to_static-requires-clause-lanes : goal.reply_to_static-requires-clause-lanes
reply_to_static-requires-clause-lanes g c = subst (FitsLanes 1) c.in-Static.is c.requires.alone

pub returns-in-Static : goal.returns-in-Static
returns-in-Static g c =
    replied_as c.args.names.now (view_model c.args.model.now) c.args.scenario.now c.args.plan.now _ c.args.trace.now c.args.work _ c.reply_to_static.result c.in-Static.is
    (static_replied c.args.names.now (view_model c.args.model.now) c.args.scenario.now c.args.plan.now _ c.in-Static.over c.reply_to_static.result (record { calls = refl; count = refl }) c.reply_to_static.ensures c.args.trace.now)
