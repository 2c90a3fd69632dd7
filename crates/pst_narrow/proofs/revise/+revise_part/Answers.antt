use Rattle.std.proofs.Common.{rules, ◌≡◌, pos, false, Ok, sym, subst, ap, ◌∙◌}
use Rattle.pst_expr.specs.Tree.{view, Binary}
use Rattle.pst_expr.specs.declared.tree.BinaryOp.TheVariants.{And}
use Rattle.pst_domain.specs.Laws.{IsNeverTrue}
use Rattle.pst_narrow.specs.Logic.{IsSurelyTrue}
use Rattle.pst_narrow.specs.Solutions.{IsMet}
use Rattle.pst_narrow.specs.Narrowing.{IsStep, GivesIn}
use Rattle.pst_narrow.proofs.NarrowLemmas.{step_err, step_as, not_is_true}
use Rattle.pst_narrow.proofs.LogicLemmas.{and_step, and_first, or_right, or_left, implies_right, implies_left}
use Rattle.pst_narrow.proofs.revise.+revise_part.Goals as goal

pub returns-in_err-revise_part-in-And-clause-step : goal.returns-in_err-revise_part-in-And-clause-step
returns-in_err-revise_part-in-And-clause-step t c =
    let l = view c.in-Binary.left.value in
    let r = view c.in-Binary.right.value in
    let a = c.args.bounds.now in
    let b = c.revise_part.new.bounds in
    let t1 = c.args.trail.now in
    let u = c.revise_part.new.trail in
    let right : IsStep (IsMet r) a b t1 u c.revise_part.result = subst (λ z. IsStep (IsMet (view z)) a b t1 u c.revise_part.result) c.deref.ensures c.revise_part.ensures.step in
    let whole = step_err (IsMet (Binary And l r)) a b t1 u c.revise_part.result c.from_residual.result (λ e. search rules) (and_first l r a b t1 u c.revise_part.result right) in
    subst (λ z. IsStep (IsMet (view z)) a b t1 u c.from_residual.result) (sym c.in-Binary.is) (subst (λ o. IsStep (IsMet (Binary o l r)) a b t1 u c.from_residual.result) (sym c.in-And.is) whole)

pub returns-then-not-branch-clause-step : goal.returns-then-not-branch-clause-step
returns-then-not-branch-clause-step t c =
    let l = view c.in-Binary.left.value in
    let r = view c.in-Binary.right.value in
    let a = c.args.bounds.now in
    let b = c.revise_part.new.bounds in
    let t1 = c.args.trail.now in
    let u = c.revise_part.new.trail in
    let right : IsStep (IsMet r) a b t1 u c.revise_part.result = subst (λ z. IsStep (IsMet (view z)) a b t1 u c.revise_part.result) c.deref.ensures c.revise_part.ensures.step in
    let whole = step_as (IsMet (Binary And l r)) a b t1 u c.revise_part.result (Ok false) (let k : c.in_ok-revise_part-in-And.field-0 ≡ false = first_of (cc (c.if-not-branch.true), search (rules, not_is_true, c.if-not-branch.true)) in c.in_ok-revise_part-in-And.was ∙ ap (λ x. Ok x) k) (and_first l r a b t1 u c.revise_part.result right) in
    subst (λ z. IsStep (IsMet (view z)) a b t1 u (Ok false)) (sym c.in-Binary.is) (subst (λ o. IsStep (IsMet (Binary o l r)) a b t1 u (Ok false)) (sym c.in-And.is) whole)

pub returns-else-not-branch-clause-step : goal.returns-else-not-branch-clause-step
returns-else-not-branch-clause-step t c =
    let l = view c.in-Binary.left.value in
    let r = view c.in-Binary.right.value in
    let a = c.args.bounds.now in
    let b = c.revise_part.new.bounds in
    let d = c.revise_part-in-And.new.bounds in
    let t1 = c.args.trail.now in
    let u = c.revise_part.new.trail in
    let v = c.revise_part-in-And.new.trail in
    let right : IsStep (IsMet r) a b t1 u c.revise_part.result = subst (λ z. IsStep (IsMet (view z)) a b t1 u c.revise_part.result) c.deref.ensures c.revise_part.ensures.step in
    let left : IsStep (IsMet l) b d u v c.revise_part-in-And.result = subst (λ z. IsStep (IsMet (view z)) b d u v c.revise_part-in-And.result) c.deref-in-And.ensures c.revise_part-in-And.ensures.step in
    let whole = and_step l r a b d t1 u v c.revise_part.result c.revise_part-in-And.result right left in
    subst (λ z. IsStep (IsMet (view z)) a d t1 v c.revise_part-in-And.result) (sym c.in-Binary.is) (subst (λ o. IsStep (IsMet (Binary o l r)) a d t1 v c.revise_part-in-And.result) (sym c.in-And.is) whole)

pub returns-then-refused-clause-step : goal.returns-then-refused-clause-step
returns-then-refused-clause-step t c =
    let l = view c.in-Binary.left.value in
    let r = view c.in-Binary.right.value in
    let a = c.args.bounds.now in
    let b = c.revise_part-then-refused.new.bounds in
    let t1 = c.args.trail.now in
    let u = c.revise_part-then-refused.new.trail in
    let q = c.revise_part-then-refused.result in
    let never : IsNeverTrue r a = subst (λ z. IsNeverTrue (view z) a) c.deref-in-Or.ensures (c.refused.ensures.sound c.if-refused.true) in
    let left : IsStep (IsMet l) a b t1 u q = subst (λ z. IsStep (IsMet (view z)) a b t1 u q) c.deref-then-refused.ensures c.revise_part-then-refused.ensures.step in
    subst (λ z. IsStep (IsMet (view z)) a b t1 u q) (sym c.in-Binary.is) (subst (λ o. IsStep (IsMet (Binary o l r)) a b t1 u q) (sym c.in-Or.is) (or_left l r a b t1 u q never left))

pub returns-then-refused-2-clause-step : goal.returns-then-refused-2-clause-step
returns-then-refused-2-clause-step t c =
    let l = view c.in-Binary.left.value in
    let r = view c.in-Binary.right.value in
    let a = c.args.bounds.now in
    let b = c.revise_part-then-refused-2.new.bounds in
    let t1 = c.args.trail.now in
    let u = c.revise_part-then-refused-2.new.trail in
    let q = c.revise_part-then-refused-2.result in
    let never : IsNeverTrue l a = subst (λ z. IsNeverTrue (view z) a) c.deref-in-Or-2.ensures (c.refused-in-Or.ensures.sound c.if-refused-2.true) in
    let right : IsStep (IsMet r) a b t1 u q = subst (λ z. IsStep (IsMet (view z)) a b t1 u q) c.deref-then-refused-2.ensures c.revise_part-then-refused-2.ensures.step in
    subst (λ z. IsStep (IsMet (view z)) a b t1 u q) (sym c.in-Binary.is) (subst (λ o. IsStep (IsMet (Binary o l r)) a b t1 u q) (sym c.in-Or.is) (or_right l r a b t1 u q never right))

pub returns-then-is_surely_true-clause-step : goal.returns-then-is_surely_true-clause-step
returns-then-is_surely_true-clause-step t c =
    let l = view c.in-Binary.left.value in
    let r = view c.in-Binary.right.value in
    let a = c.args.bounds.now in
    let b = c.revise_part-then-is_surely_true.new.bounds in
    let t1 = c.args.trail.now in
    let u = c.revise_part-then-is_surely_true.new.trail in
    let q = c.revise_part-then-is_surely_true.result in
    let sure : IsSurelyTrue l a = subst (λ z. IsSurelyTrue (view z) a) c.deref-in-Implies.ensures (c.is_surely_true.ensures c.if-is_surely_true.true) in
    let right : IsStep (IsMet r) a b t1 u q = subst (λ z. IsStep (IsMet (view z)) a b t1 u q) c.deref-then-is_surely_true.ensures c.revise_part-then-is_surely_true.ensures.step in
    subst (λ z. IsStep (IsMet (view z)) a b t1 u q) (sym c.in-Binary.is) (subst (λ o. IsStep (IsMet (Binary o l r)) a b t1 u q) (sym c.in-Implies.is) (implies_right l r a b t1 u q sure right))

pub returns-then-refused-3-clause-step : goal.returns-then-refused-3-clause-step
returns-then-refused-3-clause-step t c =
    let l = view c.in-Binary.left.value in
    let r = view c.in-Binary.right.value in
    let a = c.args.bounds.now in
    let b = c.demand_span.new.bounds in
    let t1 = c.args.trail.now in
    let u = c.demand_span.new.trail in
    let q = c.demand_span.result in
    let never : IsNeverTrue r a = subst (λ z. IsNeverTrue (view z) a) c.deref-in-Implies-2.ensures (c.refused-in-Implies.ensures.sound c.if-refused-3.true) in
    let left : IsStep (GivesIn l (record { low = pos 0; high = pos 0 })) a b t1 u q = subst (λ z. IsStep (GivesIn (view z) (record { low = pos 0; high = pos 0 })) a b t1 u q) c.deref-then-refused-3.ensures c.demand_span.ensures.step in
    subst (λ z. IsStep (IsMet (view z)) a b t1 u q) (sym c.in-Binary.is) (subst (λ o. IsStep (IsMet (Binary o l r)) a b t1 u q) (sym c.in-Implies.is) (implies_left l r a b t1 u q never left))
