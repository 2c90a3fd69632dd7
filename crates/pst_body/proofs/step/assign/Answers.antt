use Rattle.std.proofs.lemmas.Option.{slice_get-get_or}
use Rattle.pst_model.specs.ModelView.{view_source}
use Rattle.pst_body.specs.Sites.{place_of}
use Rattle.pst_body.proofs.Steps.{assign_did}
use Rattle.pst_body.proofs.step.assign.Goals as goal

pub returns : goal.returns
returns g c =
    assign_did (place_of c.args.site.now c.args.turns.now) (view_source c.args.source.now) c.args.local _ c.args.memory.now c.set.new.memory (g.T.Target.calls c.args.lane.now) (g.T.Target.calls c.set.new.lane) (g.T.Target.faults c.args.lane.now) (g.T.Target.faults c.set.new.lane) c.set.result
    (slice_get-get_or c.args.site.now.ranges.now c.args.local _ c.requires.inside) c.set.ensures
