use Rattle.std.proofs.Common.{map}
use Rattle.pst_model.specs.ModelView.{view_model, view_body_step}
use Rattle.pst_body.proofs.Running.{ran_steps}
use Rattle.pst_body.proofs.body.run_at.Goals as goal

pub returns : goal.returns
returns g c =
    ran_steps (view_model c.args.site.now.model.now) c.args.site.now.scenario.now c.args.site.now.number c.args.site.now.act.now (map view_body_step c.args.steps.now) c.args.site.now.ranges.now
    c.in_ok-memory.memory c.run_steps.new.memory (g.T.Target.calls c.args.lane.now) (g.T.Target.calls c.run_steps.new.lane) (g.T.Target.faults c.args.lane.now) (g.T.Target.faults c.run_steps.new.lane) c.run_steps.result _ c.in_ok-memory.ensures c.run_steps.ensures
