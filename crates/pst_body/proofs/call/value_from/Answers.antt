use Rattle.std.proofs.Common.{List, map, subst, sym}
use Rattle.pst_model.specs.declared.constraint.Constraint.{Constraint}
use Rattle.pst_model.specs.declared.body.Source.{Source}
use Rattle.pst_model.specs.ConstraintTree.{view_constraint}
use Rattle.pst_model.specs.ModelView.{view_source}
use Rattle.pst_legal.specs.Body.{source, call}
use Rattle.pst_body.specs.Sites.{place_of}
use Rattle.pst_body.specs.Doing.{Gave}
use Rattle.pst_body.proofs.Passing.{read_gave}
use Rattle.pst_body.proofs.call.value_from.Goals as goal

pub returns-in-Value : goal.returns-in-Value
returns-in-Value g c =
    let place = place_of c.args.site.now c.args.turns.now in
    subst (λ (s : Source). Gave (λ go state. source place state (view_source s) go) c.args.memory.now c.read.new.memory (g.T.Target.calls c.args.lane.now) (g.T.Target.calls c.args.lane.now) (g.T.Target.faults c.args.lane.now) (g.T.Target.faults c.args.lane.now) c.read.result) (sym c.in-Value.is)
    (read_gave place (view_constraint c.in-Value.expression) c.args.memory.now c.read.new.memory (g.T.Target.calls c.args.lane.now) (g.T.Target.faults c.args.lane.now) c.read.result c.read.ensures.value c.read.ensures.same)

pub returns-in-Answer : goal.returns-in-Answer
returns-in-Answer g c =
    let place = place_of c.args.site.now c.args.turns.now in
    subst (λ (s : Source). Gave (λ go state. source place state (view_source s) go) c.args.memory.now c.call.new.memory (g.T.Target.calls c.args.lane.now) (g.T.Target.calls c.call.new.lane) (g.T.Target.faults c.args.lane.now) (g.T.Target.faults c.call.new.lane) c.call.result) (sym c.in-Answer.is)
    (subst (λ (l : List Constraint). Gave (λ go state. call place state c.in-Answer.function (map view_constraint l) go) c.args.memory.now c.call.new.memory (g.T.Target.calls c.args.lane.now) (g.T.Target.calls c.call.new.lane) (g.T.Target.faults c.args.lane.now) (g.T.Target.faults c.call.new.lane) c.call.result) c.as_slice.ensures.value c.call.ensures)
