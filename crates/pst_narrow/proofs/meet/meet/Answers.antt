use Rattle.std.proofs.Common.{rules, ap, true, Some, Ok, sym, subst, ◌∙◌}
use Rattle.pst_domain.specs.Bounds.{IsInside, bound_of}
use Rattle.pst_narrow.specs.Narrowing.{LiesIn}
use Rattle.pst_narrow.proofs.NarrowLemmas.{bound_same, step_self, step_along, meet_refutes, meet_inside, meet_sets, by_lt, by_not_lt}
use Rattle.pst_narrow.proofs.meet.meet.Goals as goal

pub returns-then-is_within : goal.returns-then-is_within
returns-then-is_within c =
    record {
      step = step_self (LiesIn c.args.variable c.args.wanted) c.args.bounds.now c.args.trail.now (Ok true) c.requires.upright (λ e. absurd cc);
      inside = λ e. subst (λ r. IsInside r (Some c.args.wanted)) c.in-Some.ensures (c.is_within.ensures c.if-is_within.true);
    }

pub returns-then-is_reversed-clause-step : goal.returns-then-is_reversed-clause-step
returns-then-is_reversed-clause-step c =
    meet_refutes c.args.bounds.now c.args.trail.now c.args.variable c.args.wanted c.in-Some.former c.overlap-cut.result.low c.overlap-cut.result.high c.requires.variable c.requires.upright (sym c.in-Some.ensures) (ap (λ s. s.low) c.overlap-cut.ensures) (ap (λ s. s.high) c.overlap-cut.ensures) (by_lt _ _ (sym c.is_reversed.ensures ∙ c.if-is_reversed.true))

pub returns-in_err-set-clause-step : goal.returns-in_err-set-clause-step
returns-in_err-set-clause-step c =
    step_along (LiesIn c.args.variable c.args.wanted) c.args.bounds.now c.args.bounds.now c.set.new.bounds c.args.trail.now c.args.trail.now c.set.new.self c.from_residual.result c.in_err-set.ensures.bounds c.in_err-set.ensures.trail
    (step_self (LiesIn c.args.variable c.args.wanted) c.args.bounds.now c.args.trail.now c.from_residual.result c.requires.upright (λ e. search rules))

pub returns-clause-step : goal.returns-clause-step
returns-clause-step c =
    step_along (LiesIn c.args.variable c.args.wanted) c.args.bounds.now _ c.set.new.bounds c.args.trail.now _ c.set.new.self (Ok true) c.in_ok-set.ensures.bounds c.in_ok-set.ensures.trail
    (meet_sets c.args.bounds.now c.args.trail.now c.args.variable c.args.wanted c.in-Some.former c.overlap-cut.result.low c.overlap-cut.result.high c.requires.variable c.requires.upright (sym c.in-Some.ensures) (ap (λ s. s.low) c.overlap-cut.ensures) (ap (λ s. s.high) c.overlap-cut.ensures) (by_not_lt _ _ (sym c.is_reversed.ensures ∙ c.if-is_reversed.false)))

pub returns-clause-inside : goal.returns-clause-inside
returns-clause-inside c e =
    let met = meet_inside c.args.wanted c.in-Some.former c.overlap-cut.result.low c.overlap-cut.result.high (ap (λ s. s.low) c.overlap-cut.ensures) (ap (λ s. s.high) c.overlap-cut.ensures) in
    subst (λ b. IsInside (bound_of b c.args.variable) (Some c.args.wanted)) (sym c.in_ok-set.ensures.bounds) (subst (λ r. IsInside r (Some c.args.wanted)) (sym (bound_same c.args.bounds.now c.args.variable (Some c.overlap-cut.result) c.requires.variable)) met)
