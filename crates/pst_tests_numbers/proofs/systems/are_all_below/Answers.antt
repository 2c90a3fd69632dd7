use Rattle.std.proofs.Common.{ℕ, ◌<◌, get_or, subst, arith, below_more}
use Rattle.std.proofs.lemmas.List.{get_or_read}
use Rattle.std.proofs.lemmas.List.Elements.{All-map}
use Rattle.pst_expr.specs.declared.tree.Expr.{Expr}
use Rattle.pst_expr.specs.Tree.{view}
use Rattle.pst_domain.specs.Bounds.{HasVariablesBelow}
use Rattle.pst_tests_numbers.proofs.systems.are_all_below.Goals as goal

pub loop-constraint-preserved : goal.loop-constraint-preserved
loop-constraint-preserved c =
    let xs = c.args.constraints.now in
    let n = c.args.count in
    below_more (λ k. (d : Expr) → HasVariablesBelow n (view (get_or xs k d))) c.loop-constraint.constraint-index c.loop-constraint.invariant
    (λ d. subst (λ y. HasVariablesBelow n (view y)) (get_or_read xs c.loop-constraint.constraint-index c.constraint-item.result c.loop-constraint-test.true c.constraint-item.is d) (c.are_below.ensures c.if-not-are_below.false))

pub returns : goal.returns
returns c e = All-map (HasVariablesBelow c.args.count) view c.args.constraints.now (λ k d below. c.loop-constraint.invariant k (omega (arith, below, c.loop-constraint-test.false)) d)
