use Rattle.std.proofs.Common.{Option, option_map, subst, sym}
use Rattle.pst_model.specs.declared.body.Source.{Source}
use Rattle.pst_model.specs.ModelView.{view_source}
use Rattle.pst_legal.specs.Body.{started}
use Rattle.pst_body.specs.Sites.{place_of}
use Rattle.pst_body.specs.Doing.{goes_on, DidTo}
use Rattle.pst_body.proofs.step.declare.Goals as goal

pub returns-in-Some : goal.returns-in-Some
returns-in-Some g c =
    subst (λ (o : Option Source). DidTo (λ state. started (place_of c.args.site.now c.args.turns.now) state c.args.local c.args.range (option_map view_source o)) (goes_on {A = Unit {0}}) c.args.memory.now c.set.new.memory (g.T.Target.calls c.args.lane.now) (g.T.Target.calls c.set.new.lane) (g.T.Target.faults c.args.lane.now) (g.T.Target.faults c.set.new.lane) c.set.result)
    (sym c.in-Some.is) c.set.ensures
