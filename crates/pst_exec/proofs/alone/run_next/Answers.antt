use Rattle.std.proofs.Common.{subst, sym}
use Rattle.pst_scen.specs.declared.scenario.Scenario.{Scenario}
use Rattle.pst_model.specs.ModelView.{view_model}
use Rattle.pst_legal.specs.Body.{body_run}
use Rattle.pst_body.specs.Ran.{Ran}
use Rattle.pst_exec.proofs.Going.{ran_next}
use Rattle.pst_exec.proofs.alone.run_next.Goals as goal

pub returns-in-Ok-clause-runs : goal.returns-in-Ok-clause-runs
returns-in-Ok-clause-runs g c =
    ran_next (view_model c.args.model.now) c.args.book.now c.start-action.new.book c.end-ended.new.self (g.T.Target.calls c.args.lane.now) (g.T.Target.calls c.run_body.new.lane) (g.T.Target.faults c.args.lane.now) (g.T.Target.faults c.run_body.new.lane) c.start-action.result c.run_body.result c.end-ended.result c.start-action.ensures.starts
    (subst (λ (s : Scenario). Ran (body_run (view_model c.args.model.now) s c.start-action.result) (g.T.Target.calls c.args.lane.now) (g.T.Target.calls c.run_body.new.lane) (g.T.Target.faults c.args.lane.now) (g.T.Target.faults c.run_body.new.lane) c.run_body.result) (sym c.requires.of) c.run_body.ensures)
    c.in-Ok.is c.end-ended.ensures.is c.end-ended.ensures.yes
