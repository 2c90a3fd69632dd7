use Rattle.std.proofs.Common.{rules, ◌≡◌, length, map, true, false, Ok, sym, subst, ap, ◌∙◌}
use Rattle.pst_expr.specs.Tree.{view}
use Rattle.pst_domain.specs.Bounds.{HasVariablesBelow}
use Rattle.pst_narrow.specs.Solutions.{AreMet}
use Rattle.pst_narrow.specs.Narrowing.{HaveVariablesBelow}
use Rattle.pst_narrow.proofs.NarrowLemmas.{step_err, step_as, not_is_true, not_is_false}
use Rattle.pst_narrow.proofs.ListLemmas.{at, one_step, all_revised}
use Rattle.pst_narrow.proofs.SettleLemmas.{none_looked, one_looked, all_looked}
use Rattle.pst_narrow.proofs.settle.look_at_all.Goals as goal

pub loop-constraint-init : goal.loop-constraint-init
loop-constraint-init c = none_looked c.args.constraints.now c.args.bounds.now c.args.trail.now c.requires.upright

pub look_at-requires-clause-upright : goal.look_at-requires-clause-upright
look_at-requires-clause-upright c = c.loop-constraint.invariant.revised.step.narrows.upright

pub look_at-requires-clause-variables : goal.look_at-requires-clause-variables
look_at-requires-clause-variables c =
    let xs = c.args.constraints.now in
    at (HasVariablesBelow (length c.loop-constraint.bounds)) xs c.loop-constraint.constraint-index c.constraint-item.result c.loop-constraint-test.true c.constraint-item.is
    (subst (λ n. HaveVariablesBelow n (map view xs)) (sym c.loop-constraint.invariant.revised.step.narrows.count) c.requires.variables)

pub returns-in_err-look_at-clause-step : goal.returns-in_err-look_at-clause-step
returns-in_err-look_at-clause-step c =
    let xs = c.args.constraints.now in
    step_err (AreMet (map view xs)) c.args.bounds.now c.look_at.new.bounds c.args.trail.now c.look_at.new.trail c.look_at.result c.from_residual.result (λ e. search rules)
    (one_step xs c.loop-constraint.constraint-index c.constraint-item.result c.args.bounds.now c.loop-constraint.bounds c.look_at.new.bounds c.args.trail.now c.loop-constraint.trail c.look_at.new.trail c.look_at.result c.loop-constraint-test.true c.constraint-item.is c.loop-constraint.invariant.revised c.look_at.ensures.step)

pub returns-then-not-branch-clause-step : goal.returns-then-not-branch-clause-step
returns-then-not-branch-clause-step c =
    let xs = c.args.constraints.now in
    step_as (AreMet (map view xs)) c.args.bounds.now c.look_at.new.bounds c.args.trail.now c.look_at.new.trail c.look_at.result (Ok false) (let k : c.in_ok-look_at.field-0 ≡ false = first_of (cc (c.if-not-branch.true), search (rules, not_is_true, c.if-not-branch.true)) in c.in_ok-look_at.was ∙ ap (λ b. Ok b) k)
    (one_step xs c.loop-constraint.constraint-index c.constraint-item.result c.args.bounds.now c.loop-constraint.bounds c.look_at.new.bounds c.args.trail.now c.loop-constraint.trail c.look_at.new.trail c.look_at.result c.loop-constraint-test.true c.constraint-item.is c.loop-constraint.invariant.revised c.look_at.ensures.step)

pub loop-constraint-preserved : goal.loop-constraint-preserved
loop-constraint-preserved c =
    let xs = c.args.constraints.now in
    let e = (let k : c.in_ok-look_at.field-0 ≡ true = first_of (cc (c.if-not-branch.false), search (rules, not_is_false, c.if-not-branch.false)) in c.in_ok-look_at.was ∙ ap (λ b. Ok b) k) in
    one_looked xs c.loop-constraint.constraint-index c.constraint-item.result c.args.bounds.now c.loop-constraint.bounds c.look_at.new.bounds c.args.trail.now c.loop-constraint.trail c.look_at.new.trail c.look_at.result c.loop-constraint-test.true c.constraint-item.is c.loop-constraint.invariant c.look_at.ensures.step (c.look_at.ensures.cut e) (c.look_at.ensures.tested e)

pub returns-clause-step : goal.returns-clause-step
returns-clause-step c = c.loop-constraint.invariant.revised.step

pub returns-clause-cuts : goal.returns-clause-cuts
returns-clause-cuts c e = all_revised c.args.constraints.now c.loop-constraint.constraint-index c.args.bounds.now c.loop-constraint.bounds c.args.trail.now c.loop-constraint.trail c.loop-constraint-test.false c.loop-constraint.invariant.revised

pub returns-clause-looked : goal.returns-clause-looked
returns-clause-looked c e = all_looked c.args.constraints.now c.loop-constraint.constraint-index c.args.bounds.now c.loop-constraint.bounds c.args.trail.now c.loop-constraint.trail c.loop-constraint-test.false c.loop-constraint.invariant
