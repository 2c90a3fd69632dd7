use Rattle.std.proofs.Common.{◌≡◌, ℤ, subst, sym}
use Rattle.pst_expr.specs.declared.ranges.Span.{Span}
use Rattle.pst_expr.specs.Spans.{IsInSpan}
use Rattle.pst_expr.specs.Tree.{view}
use Rattle.pst_expr.specs.Value.{value}
use Rattle.pst_narrow.specs.Narrowing.{AreEqual}
use Rattle.pst_narrow.specs.declared.parts.Parts.{Parts}
use Rattle.pst_narrow.specs.Parts.{GiveIn}
use Rattle.pst_narrow.proofs.NarrowLemmas.{step_from}
use Rattle.pst_narrow.proofs.PartLemmas.{along_spans, equal_cut}
use Rattle.pst_narrow.proofs.compare.equal.Goals as goal

exchanged : (s t : Span) (x y : ℤ) → IsInSpan x s → IsInSpan y t → x ≡ y → IsInSpan x t × IsInSpan y s
exchanged s t x y left right e = (subst (λ z. IsInSpan z t) (sym e) right, subst (λ z. IsInSpan z s) e left)

pub returns-clause-step : goal.returns-clause-step
returns-clause-step c =
    let p = view c.args.left.now in
    let q = view c.args.right.now in
    let spans = c.in-Some.ensures in
    let parts : Parts = record { left = c.in-Some.spans.right; right = c.in-Some.spans.left } in
    step_from (AreEqual p q) (GiveIn p q parts) c.args.bounds.now c.require_both.new.bounds c.args.trail.now c.require_both.new.trail c.require_both.result c.require_both.ensures.step
    (λ values holds within. along_spans ◌≡◌ c.in-Some.spans.left c.in-Some.spans.right parts (value p values) (value q values) (exchanged c.in-Some.spans.left c.in-Some.spans.right) (spans.left values within) (spans.right values within) holds)

pub returns-clause-cut : goal.returns-clause-cut
returns-clause-cut c e =
    equal_cut (view c.args.left.now) (view c.args.right.now) c.args.bounds.now c.require_both.new.bounds c.in-Some.spans c.in-Some.ensures (c.require_both.ensures.left e) (c.require_both.ensures.right e)
