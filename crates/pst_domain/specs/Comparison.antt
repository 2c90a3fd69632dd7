-- Comparisons of spans: true where all pairs compare, false where none does. `DecideAllPairs` of `Laws` says so of each.
use Rattle.std.specs.Prelude.{int_lt, int_le, Bool, ◌&&◌, ◌||◌, if◌then◌else◌}
use Rattle.std.specs.Ordering.{int_eq}
use Rattle.pst_expr.specs.declared.ranges.Span.{Span}
use Rattle.pst_domain.specs.declared.truth.Truth.{Truth}
use Rattle.pst_domain.specs.declared.truth.Truth.TheVariants.{False, True, Either}
use Rattle.pst_domain.specs.Truth.{negated}

abbrev pub decided : Bool → Bool → Truth
decided all none = if all then True else (if none then False else Either)

-- s < t
abbrev pub less_truth : Span → Span → Truth
less_truth s t = decided (int_lt s.high t.low) (int_le t.high s.low)

-- s <= t
abbrev pub less_or_equal_truth : Span → Span → Truth
less_or_equal_truth s t = decided (int_le s.high t.low) (int_lt t.high s.low)

-- s == t: all pairs are equal where both are one point, and none is where the spans don't meet
abbrev pub equal_truth : Span → Span → Truth
equal_truth s t = decided (int_eq s.low t.high && int_eq s.high t.low) (int_lt s.high t.low || int_lt t.high s.low)

-- s != t
abbrev pub not_equal_truth : Span → Span → Truth
not_equal_truth s t = negated (equal_truth s t)
