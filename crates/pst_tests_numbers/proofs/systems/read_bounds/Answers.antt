use Rattle.std.proofs.Common.{[], ◌∷◌, ◌++◌, ◌≤ℤ◌, Option, IfSome, sym, subst}
use Rattle.std.proofs.lemmas.List.Elements.{All-append, All-cons, All-nil}
use Rattle.pst_expr.specs.declared.ranges.Span.{Span}
use Rattle.pst_domain.specs.Bounds.{AreUpright}
use Rattle.pst_tests_numbers.proofs.systems.read_bounds.Goals as goal

abbrev Upright : Option Span → Type 0
Upright b = IfSome b (λ s. s.low ≤ℤ s.high)

pub loop-word-preserved : goal.loop-word-preserved
loop-word-preserved c =
    subst AreUpright (sym c.in_ok-push.ensures.items) (All-append Upright c.loop-word.spans.items (c.read_span.result ∷ []) c.loop-word.invariant (All-cons Upright c.read_span.result [] c.read_span.ensures (All-nil Upright)))
