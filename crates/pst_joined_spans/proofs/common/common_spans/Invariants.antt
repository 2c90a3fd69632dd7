use Rattle.std.proofs.Common.{drop}
use Rattle.pst_joined_spans.proofs.Cutting.{IsLeft}
use Rattle.pst_joined_spans.proofs.common.common_spans.Given as goal

abbrev pub invariant-loop-range : goal.invariant-loop-range
invariant-loop-range l = IsLeft l.spans l.found.items (drop l.range-index l.others) l.others
