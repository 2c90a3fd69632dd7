-- What a span says of truth, and the logical operators by that.
use Rattle.std.specs.Prelude.{pos, int_le, Bool, not, ◌&&◌, Option, Some, None, option_map, if◌then◌else◌}
use Rattle.std.specs.Ordering.{int_eq}
use Rattle.pst_expr.specs.declared.ranges.Span.{Span}
use Rattle.pst_domain.specs.declared.truth.Truth.{Truth}
use Rattle.pst_domain.specs.declared.truth.Truth.TheVariants.{False, True, Either}

-- 0 is in a span; it is the only number there
abbrev pub has_zero : Span → Bool
has_zero s = int_le s.low (pos 0) && int_le (pos 0) s.high

abbrev pub is_zero : Span → Bool
is_zero s = int_eq s.low (pos 0) && int_eq s.high (pos 0)

-- true where 0 isn't in the span, false where only 0 is
abbrev pub truth_of_span : Span → Truth
truth_of_span s = if not (has_zero s) then True else (if is_zero s then False else Either)

abbrev pub truth_of : Option Span → Option Truth
truth_of bound = option_map truth_of_span bound

-- the truth values as a span: 0, 1, or 0 to 1
abbrev pub span_of_truth : Truth → Span
span_of_truth False = record { low = pos 0; high = pos 0 }
span_of_truth True = record { low = pos 1; high = pos 1 }
span_of_truth Either = record { low = pos 0; high = pos 1 }

abbrev pub negated : Truth → Truth
negated False = True
negated True = False
negated Either = Either

-- a && b
abbrev pub and_truth : Option Truth → Option Truth → Option Truth
and_truth None b = None
and_truth (Some False) b = Some False
and_truth (Some True) b = b
and_truth (Some Either) None = Some False
and_truth (Some Either) (Some False) = Some False
and_truth (Some Either) (Some True) = Some Either
and_truth (Some Either) (Some Either) = Some Either

-- a || b
abbrev pub or_truth : Option Truth → Option Truth → Option Truth
or_truth None b = None
or_truth (Some False) b = b
or_truth (Some True) b = Some True
or_truth (Some Either) None = Some True
or_truth (Some Either) (Some False) = Some Either
or_truth (Some Either) (Some True) = Some True
or_truth (Some Either) (Some Either) = Some Either

-- a -> b
abbrev pub implies_truth : Option Truth → Option Truth → Option Truth
implies_truth None b = None
implies_truth (Some False) b = Some True
implies_truth (Some True) b = b
implies_truth (Some Either) None = Some True
implies_truth (Some Either) (Some False) = Some Either
implies_truth (Some Either) (Some True) = Some True
implies_truth (Some Either) (Some Either) = Some Either
