use Rattle.std.proofs.Common.{rules, ◌≡◌, Bool, not, true, false, length, refl, sym, subst, arith}
use Rattle.pst_expr.specs.Spans.{size_of}
use Rattle.pst_values.specs.Options.{IsRun}
use Rattle.pst_fitting.specs.Places.{AreBelow}
use Rattle.pst_fitting.specs.Passed.{Tries, ExcludesAll}
use Rattle.pst_fitting.proofs.FittingLemmas.{at_start, at_then, after_refused, after_wide}
use Rattle.pst_fitting.proofs.fitting.first_fitting.Goals as goal

not_is_true : (b : Bool) → not b ≡ true → b ≡ false
not_is_true true e = absurd cc
not_is_true false e = refl

not_is_false : (b : Bool) → not b ≡ false → b ≡ true
not_is_false true e = refl
not_is_false false e = absurd cc

pub loop-place-init : goal.loop-place-init
loop-place-init c = at_start c.args.narrowed.now c.args.variable c.args.domain.now c.args.start c.args.from _ c.requires.kept c.requires.from c.new-reasons.ensures.items

pub can_give-requires-clause-kept : goal.can_give-requires-clause-kept
can_give-requires-clause-kept c = c.loop-place.invariant.at.kept

pub can_give-requires-clause-variable : goal.can_give-requires-clause-variable
can_give-requires-clause-variable c = let count = c.loop-place.invariant.at.count in omega (arith, count, c.requires.variable)

pub can_give-requires-clause-below : goal.can_give-requires-clause-below
can_give-requires-clause-below c = subst (λ gs. AreBelow c.loop-place.reasons.items (length gs)) (sym c.loop-place.invariant.at.given_is) c.loop-place.invariant.below

pub returns-in_err-can_give-clause-at : goal.returns-in_err-can_give-clause-at
returns-in_err-can_give-clause-at c = at_then c.args.narrowed.now c.loop-place.narrowed c.can_give.new.narrowed c.loop-place.invariant.at c.can_give.ensures.at

pub loop-place-preserved-then-not-branch : goal.loop-place-preserved-then-not-branch
loop-place-preserved-then-not-branch c =
    let spans = c.args.domain.now in
    let run = c.run_at-run.result in
    let span = c.span_of_run-span.result in
    let h = c.loop-place.invariant in
    let is : IsRun c.args.start (size_of spans) c.loop-place.place run = subst (λ n. IsRun c.args.start n c.loop-place.place run) c.size-size.ensures c.run_at-run.ensures in
    let b : c.in_ok-can_give.field-0 ≡ false = first_of (cc (c.if-not-branch.true), search (rules, not_is_true, c.if-not-branch.true)) in
    after_refused c.args.narrowed.now c.loop-place.narrowed c.can_give.new.narrowed c.args.variable spans c.args.start c.args.from c.loop-place.place c.loop-place.width c.next_width-width.result c.portion_at-portion.result.count run span c.loop-place.reasons.items c.can_give.new.reasons.items
    c.next_width-width.ensures.some is c.portion_at-portion.ensures.most c.span_of_run-span.ensures.holds h c.can_give.ensures.at
    (subst (λ x. Tries x c.loop-place.narrowed c.args.variable span c.loop-place.reasons.items c.can_give.new.reasons.items) b c.in_ok-can_give.ensures.tries)

pub loop-place-preserved-then-is_outer : goal.loop-place-preserved-then-is_outer
loop-place-preserved-then-is_outer c =
    let h = c.loop-place.invariant in
    let b : c.in_ok-can_give.field-0 ≡ true = first_of (cc (c.if-not-branch.false), search (rules, not_is_false, c.if-not-branch.false)) in
    let same = subst (λ x. Tries x c.loop-place.narrowed c.args.variable c.span_of_run-span.result c.loop-place.reasons.items c.can_give.new.reasons.items) b c.in_ok-can_give.ensures.tries in
    after_wide c.args.narrowed.now c.loop-place.narrowed c.can_give.new.narrowed c.args.variable c.args.domain.now c.args.start c.args.from c.loop-place.place c.loop-place.width c.loop-place.width c.loop-place.reasons.items c.can_give.new.reasons.items h.wide same h c.can_give.ensures.at

pub loop-place-preserved : goal.loop-place-preserved
loop-place-preserved c =
    let h = c.loop-place.invariant in
    let b : c.in_ok-can_give.field-0 ≡ true = first_of (cc (c.if-not-branch.false), search (rules, not_is_false, c.if-not-branch.false)) in
    let same = subst (λ x. Tries x c.loop-place.narrowed c.args.variable c.span_of_run-span.result c.loop-place.reasons.items c.can_give.new.reasons.items) b c.in_ok-can_give.ensures.tries in
    let some = c.portion_at-portion.ensures.some in
    after_wide c.args.narrowed.now c.loop-place.narrowed c.can_give.new.narrowed c.args.variable c.args.domain.now c.args.start c.args.from c.loop-place.place c.loop-place.width _ c.loop-place.reasons.items c.can_give.new.reasons.items (omega (arith, some, c.if-count-eq1.false)) same h c.can_give.ensures.at

pub returns-then-count-eq1-clause-passes : goal.returns-then-count-eq1-clause-passes
returns-then-count-eq1-clause-passes c =
    let h = c.loop-place.invariant in
    let b : c.in_ok-can_give.field-0 ≡ true = first_of (cc (c.if-not-branch.false), search (rules, not_is_false, c.if-not-branch.false)) in
    let same = subst (λ x. Tries x c.loop-place.narrowed c.args.variable c.span_of_run-span.result c.loop-place.reasons.items c.can_give.new.reasons.items) b c.in_ok-can_give.ensures.tries in
    record {
      least = h.least;
      most = h.most;
      below = subst (λ xs. AreBelow xs (length c.args.narrowed.now.given.items)) (sym same) h.below;
      passed = subst (λ xs. ExcludesAll c.args.narrowed.now xs c.args.variable c.args.domain.now c.args.start c.args.from c.loop-place.place) (sym same) h.passed;
    }
