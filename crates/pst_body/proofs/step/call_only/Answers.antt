use Rattle.std.proofs.Common.{map}
use Rattle.std.proofs.lemmas.Result.{err_from_is_err_and}
use Rattle.pst_model.specs.ConstraintTree.{view_constraint}
use Rattle.pst_body.specs.Sites.{place_of}
use Rattle.pst_body.proofs.Steps.{drop_stopped}
use Rattle.pst_body.proofs.step.call_only.Goals as goal

pub returns-in_err-_answer : goal.returns-in_err-_answer
returns-in_err-_answer g c =
    let p = err_from_is_err_and c.from_residual.result c.from_residual.ensures.1 in
    rw (p.1, p.2) (drop_stopped (place_of c.args.site.now c.args.turns.now) c.args.function (map view_constraint c.args.arguments.now) c.args.memory.now c.call.new.memory (g.T.Target.calls c.args.lane.now) (g.T.Target.calls c.call.new.lane) (g.T.Target.faults c.args.lane.now) (g.T.Target.faults c.call.new.lane) c.in_err-_answer.field-0.0 c.in_err-_answer.ensures)
