use Rattle.std.proofs.Common.{false, Ok, ◌+ℤ◌, ◌≤ℤ◌}
use Rattle.std.proofs.lemmas.Int.{to_z-of_z}
use Rattle.pst_expr.specs.Tree.{view}
use Rattle.pst_expr.specs.Value.{value}
use Rattle.pst_narrow.specs.Narrowing.{AreAhead}
use Rattle.pst_narrow.specs.Parts.{GiveIn}
use Rattle.pst_narrow.proofs.NarrowLemmas.{step_self, step_from}
use Rattle.pst_narrow.proofs.PartLemmas.{none_along, along_spans, in_parts_ahead, ahead_cut}
use Rattle.pst_narrow.proofs.compare.ahead.Goals as goal

pub returns-in-None-clause-step : goal.returns-in-None-clause-step
returns-in-None-clause-step c =
    let p = view c.args.left.now in
    let q = view c.args.right.now in
    let spans = c.in-Some.ensures in
    step_self (AreAhead c.args.gap p q) c.args.bounds.now c.args.trail.now (Ok false) c.requires.upright
    (λ e values within holds. none_along (λ x y. (x +ℤ c.args.gap) ≤ℤ y) c.in-Some.spans.left c.in-Some.spans.right (value p values) (value q values) (simp (to_z-of_z, c.ranges.gap) at c.in-None.ensures) (spans.left values within) (spans.right values within) holds)

pub returns-in-Some-parts_ahead-clause-step : goal.returns-in-Some-parts_ahead-clause-step
returns-in-Some-parts_ahead-clause-step c =
    let p = view c.args.left.now in
    let q = view c.args.right.now in
    let spans = c.in-Some.ensures in
    step_from (AreAhead c.args.gap p q) (GiveIn p q c.in-Some-parts_ahead.parts) c.args.bounds.now c.require_both.new.bounds c.args.trail.now c.require_both.new.trail c.require_both.result c.require_both.ensures.step
    (λ values holds within. along_spans (λ x y. (x +ℤ c.args.gap) ≤ℤ y) c.in-Some.spans.left c.in-Some.spans.right c.in-Some-parts_ahead.parts (value p values) (value q values) (in_parts_ahead c.args.gap c.in-Some.spans.left c.in-Some.spans.right c.in-Some-parts_ahead.parts c.requires.gap (simp (to_z-of_z, c.ranges.gap) at c.in-Some-parts_ahead.ensures)) (spans.left values within) (spans.right values within) holds)

pub returns-in-Some-parts_ahead-clause-cut : goal.returns-in-Some-parts_ahead-clause-cut
returns-in-Some-parts_ahead-clause-cut c e =
    ahead_cut c.args.gap (view c.args.left.now) (view c.args.right.now) c.args.bounds.now c.require_both.new.bounds c.in-Some.spans c.in-Some-parts_ahead.parts c.in-Some.ensures (simp (to_z-of_z, c.ranges.gap) at c.in-Some-parts_ahead.ensures) (c.require_both.ensures.left e) (c.require_both.ensures.right e)
