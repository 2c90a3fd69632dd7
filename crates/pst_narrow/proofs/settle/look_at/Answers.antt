use Rattle.std.proofs.Common.{rules, ◌≡◌, true, false, not, Ok, sym, ap, ◌∙◌}
use Rattle.pst_expr.specs.Tree.{view}
use Rattle.pst_narrow.specs.Solutions.{IsMet}
use Rattle.pst_narrow.proofs.NarrowLemmas.{step_err, step_as, not_is_true, not_is_false, ok_not_false}
use Rattle.pst_narrow.proofs.SettleLemmas.{step_tested, ok_not_true}
use Rattle.pst_narrow.proofs.settle.look_at.Goals as goal

pub returns-in_err-revise-clause-step : goal.returns-in_err-revise-clause-step
returns-in_err-revise-clause-step c =
    step_err (IsMet (view c.args.constraint.now)) c.args.bounds.now c.revise.new.bounds c.args.trail.now c.revise.new.trail c.revise.result c.from_residual.result (λ e. search rules) c.revise.ensures.step

pub returns-then-not-branch-clause-step : goal.returns-then-not-branch-clause-step
returns-then-not-branch-clause-step c =
    step_as (IsMet (view c.args.constraint.now)) c.args.bounds.now c.revise.new.bounds c.args.trail.now c.revise.new.trail c.revise.result (Ok false) (let k : c.in_ok-revise.field-0 ≡ false = first_of (cc (c.if-not-branch.true), search (rules, not_is_true, c.if-not-branch.true)) in c.in_ok-revise.was ∙ ap (λ b. Ok b) k) c.revise.ensures.step

pub returns-clause-step : goal.returns-clause-step
returns-clause-step c =
    step_tested (view c.args.constraint.now) c.args.bounds.now c.revise.new.bounds c.args.trail.now c.revise.new.trail c.revise.result (Ok (not c.refused.result)) c.revise.ensures.step (λ r. c.refused.ensures.sound (ok_not_false c.refused.result r))

pub returns-clause-cut : goal.returns-clause-cut
returns-clause-cut c e = c.revise.ensures.cut (let k : c.in_ok-revise.field-0 ≡ true = first_of (cc (c.if-not-branch.false), search (rules, not_is_false, c.if-not-branch.false)) in c.in_ok-revise.was ∙ ap (λ b. Ok b) k)

pub returns-clause-tested : goal.returns-clause-tested
returns-clause-tested c e = sym c.refused.ensures.table ∙ ok_not_true c.refused.result e
