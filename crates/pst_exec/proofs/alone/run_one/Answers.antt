use Rattle.std.proofs.Common.{List, subst, sym}
use Rattle.pst_scen.specs.declared.event.Event.{Event}
use Rattle.pst_scen.specs.Trace.{Prefix}
use Rattle.pst_scen.specs.Core.{Core, commands_of}
use Rattle.pst_model.specs.ModelView.{view_model}
use Rattle.pst_exec.specs.declared.ending.RunEnd.{RunEnd}
use Rattle.std.specs.Prelude.{Err}
use Rattle.pst_exec.specs.Alone.{RunsAlone}
use Rattle.pst_exec.proofs.Going.{ran_whole, ran_broken}
use Rattle.pst_exec.proofs.alone.run_one.Goals as goal

pub returns-in-Ok-ran-clause-runs : goal.returns-in-Ok-ran-clause-runs
returns-in-Ok-ran-clause-runs g c =
    let book = c.run_rest-ran.new.book in
    ran_whole (view_model c.args.model.now) c.args.scenario.now c.args.plan.now c.in-Ok.book book (g.T.Target.calls c.args.lane.now) (g.T.Target.calls c.run_rest-ran.new.lane) (g.T.Target.faults c.args.lane.now) (g.T.Target.faults c.run_rest-ran.new.lane) c.in-Ok.ensures
    (subst (λ (es : List Event). Core book.scenario book.lanes (commands_of es) es) c.trace-made_by_the_core.ensures.value c.trace-made_by_the_core.ensures.core)
    (subst (λ (es : List Event). Prefix book.scenario book.lanes es) c.trace-made_by_the_core.ensures.value c.trace-made_by_the_core.ensures.prefix)
    c.in-Ok-ran.ensures.0 c.in-Ok-ran.ensures.1

pub returns-in-Err-clause-runs : goal.returns-in-Err-clause-runs
returns-in-Err-clause-runs g c =
    let book = c.run_rest-ran.new.book in
    subst (λ (e : RunEnd). RunsAlone (view_model c.args.model.now) c.args.scenario.now c.args.plan.now (g.T.Target.calls c.args.lane.now) (g.T.Target.calls c.run_rest-ran.new.lane) (g.T.Target.faults c.args.lane.now) (g.T.Target.faults c.run_rest-ran.new.lane) (Err e)) (sym c.broken.ensures)
    (ran_broken (view_model c.args.model.now) c.args.scenario.now c.args.plan.now c.in-Ok.book book (g.T.Target.calls c.args.lane.now) (g.T.Target.calls c.run_rest-ran.new.lane) (g.T.Target.faults c.args.lane.now) (g.T.Target.faults c.run_rest-ran.new.lane) c.in-Err.stop.action c.in-Err.stop.end c.in-Ok.ensures
    (subst (λ (es : List Event). Core book.scenario book.lanes (commands_of es) es) c.trace-made_by_the_core.ensures.value c.trace-made_by_the_core.ensures.core)
    (subst (λ (es : List Event). Prefix book.scenario book.lanes es) c.trace-made_by_the_core.ensures.value c.trace-made_by_the_core.ensures.prefix)
    c.in-Err.ensures)
