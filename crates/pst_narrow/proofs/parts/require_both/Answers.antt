use Rattle.pst_expr.specs.Tree.{view}
use Rattle.pst_narrow.specs.Narrowing.{GivesIn}
use Rattle.pst_narrow.specs.Parts.{GiveIn}
use Rattle.pst_narrow.proofs.NarrowLemmas.{step_from, step_then}
use Rattle.pst_narrow.proofs.parts.require_both.Goals as goal

pub returns-clause-step : goal.returns-clause-step
returns-clause-step c =
    let p = view c.args.left.now in
    let q = view c.args.right.now in
    step_then (GiveIn p q c.args.parts) (GivesIn p c.args.parts.left) c.args.bounds.now c.demand_span.new.bounds c.demand_span-2.new.bounds c.args.trail.now c.demand_span.new.trail c.demand_span-2.new.trail c.demand_span.result c.demand_span-2.result
    (step_from (GiveIn p q c.args.parts) (GivesIn q c.args.parts.right) c.args.bounds.now c.demand_span.new.bounds c.args.trail.now c.demand_span.new.trail c.demand_span.result c.demand_span.ensures.step (λ values holds within. holds.1)) c.demand_span-2.ensures.step (λ values holds within. holds.0)
