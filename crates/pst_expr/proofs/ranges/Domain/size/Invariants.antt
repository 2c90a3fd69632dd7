use Rattle.std.proofs.Common.{◌≡◌, take}
use Rattle.pst_expr.specs.Spans.{size_of}
use Rattle.pst_expr.proofs.ranges.Domain.size.Given as goal

abbrev pub invariant-loop-span : goal.invariant-loop-span
invariant-loop-span l = l.size ≡ size_of (take l.span-index l.span-items)
