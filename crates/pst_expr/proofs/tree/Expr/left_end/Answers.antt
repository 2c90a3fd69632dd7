use Rattle.std.proofs.Common.{◌≡◌, ◌∙◌, ap, arith}
use Rattle.pst_expr.specs.Tree.{view}
use Rattle.pst_expr.specs.Left.{left_part}
use Rattle.pst_expr.proofs.LeftLemmas.{step_part, step_depth}
use Rattle.pst_expr.proofs.tree.Expr.left_end.Goals as goal

pub loop-depth-preserved : goal.loop-depth-preserved
loop-depth-preserved c = record {
  part = step_part c.args.self.now c.loop-depth.part.now c.deref-part.result.now c.loop-depth.depth c.in-Binary.field-0 c.in-Binary.left c.in-Binary.field-2 c.in-Binary.is c.deref-part.ensures c.loop-depth.invariant.part;
  depth = step_depth c.args.self.now c.loop-depth.part.now c.deref-part.result.now c.loop-depth.depth c.in-Binary.field-0 c.in-Binary.left c.in-Binary.field-2 c.in-Binary.is c.deref-part.ensures c.loop-depth.invariant.depth;
}

pub returns-clause-part : goal.returns-clause-part
returns-clause-part c =
    let e : c.loop-depth.depth ≡ 18446744073709551615 = omega arith in
    c.loop-depth.invariant.part ∙ ap (λ n. left_part n (view c.args.self.now)) e
