use Rattle.std.proofs.Common.{pos, sym, subst}
use Rattle.pst_expr.specs.Tree.{view, Binary}
use Rattle.pst_expr.specs.declared.tree.BinaryOp.TheVariants.{Less, LessOrEqual, Greater, GreaterOrEqual, Equal}
use Rattle.pst_narrow.specs.Solutions.{IsMet}
use Rattle.pst_narrow.specs.Narrowing.{IsStep, AreAhead, AreEqual}
use Rattle.pst_narrow.proofs.NarrowLemmas.{step_from}
use Rattle.pst_narrow.proofs.PartLemmas.{met_less, met_at_most, met_greater, met_at_least, met_equal}
use Rattle.pst_narrow.proofs.compare.compare.Goals as goal

pub returns-in-Less-clause-step : goal.returns-in-Less-clause-step
returns-in-Less-clause-step c =
    let p = view c.args.left.now in
    let q = view c.args.right.now in
    subst (λ o. IsStep (IsMet (Binary o p q)) c.args.bounds.now c.ahead.new.bounds c.args.trail.now c.ahead.new.trail c.ahead.result) (sym c.in-Less.is)
    (step_from (IsMet (Binary Less p q)) (AreAhead (pos 1) p q) c.args.bounds.now c.ahead.new.bounds c.args.trail.now c.ahead.new.trail c.ahead.result c.ahead.ensures.step (λ values holds within. met_less p q values holds))

pub returns-in-LessOrEqual-clause-step : goal.returns-in-LessOrEqual-clause-step
returns-in-LessOrEqual-clause-step c =
    let p = view c.args.left.now in
    let q = view c.args.right.now in
    subst (λ o. IsStep (IsMet (Binary o p q)) c.args.bounds.now c.ahead-in-LessOrEqual.new.bounds c.args.trail.now c.ahead-in-LessOrEqual.new.trail c.ahead-in-LessOrEqual.result) (sym c.in-LessOrEqual.is)
    (step_from (IsMet (Binary LessOrEqual p q)) (AreAhead (pos 0) p q) c.args.bounds.now c.ahead-in-LessOrEqual.new.bounds c.args.trail.now c.ahead-in-LessOrEqual.new.trail c.ahead-in-LessOrEqual.result c.ahead-in-LessOrEqual.ensures.step (λ values holds within. met_at_most p q values holds))

pub returns-in-Greater-clause-step : goal.returns-in-Greater-clause-step
returns-in-Greater-clause-step c =
    let p = view c.args.left.now in
    let q = view c.args.right.now in
    subst (λ o. IsStep (IsMet (Binary o p q)) c.args.bounds.now c.ahead-in-Greater.new.bounds c.args.trail.now c.ahead-in-Greater.new.trail c.ahead-in-Greater.result) (sym c.in-Greater.is)
    (step_from (IsMet (Binary Greater p q)) (AreAhead (pos 1) q p) c.args.bounds.now c.ahead-in-Greater.new.bounds c.args.trail.now c.ahead-in-Greater.new.trail c.ahead-in-Greater.result c.ahead-in-Greater.ensures.step (λ values holds within. met_greater p q values holds))

pub returns-in-GreaterOrEqual-clause-step : goal.returns-in-GreaterOrEqual-clause-step
returns-in-GreaterOrEqual-clause-step c =
    let p = view c.args.left.now in
    let q = view c.args.right.now in
    subst (λ o. IsStep (IsMet (Binary o p q)) c.args.bounds.now c.ahead-in-GreaterOrEqual.new.bounds c.args.trail.now c.ahead-in-GreaterOrEqual.new.trail c.ahead-in-GreaterOrEqual.result) (sym c.in-GreaterOrEqual.is)
    (step_from (IsMet (Binary GreaterOrEqual p q)) (AreAhead (pos 0) q p) c.args.bounds.now c.ahead-in-GreaterOrEqual.new.bounds c.args.trail.now c.ahead-in-GreaterOrEqual.new.trail c.ahead-in-GreaterOrEqual.result c.ahead-in-GreaterOrEqual.ensures.step (λ values holds within. met_at_least p q values holds))

pub returns-in-Equal-clause-step : goal.returns-in-Equal-clause-step
returns-in-Equal-clause-step c =
    let p = view c.args.left.now in
    let q = view c.args.right.now in
    subst (λ o. IsStep (IsMet (Binary o p q)) c.args.bounds.now c.equal.new.bounds c.args.trail.now c.equal.new.trail c.equal.result) (sym c.in-Equal.is)
    (step_from (IsMet (Binary Equal p q)) (AreEqual p q) c.args.bounds.now c.equal.new.bounds c.args.trail.now c.equal.new.trail c.equal.result c.equal.ensures.step (λ values holds within. met_equal p q values holds))
