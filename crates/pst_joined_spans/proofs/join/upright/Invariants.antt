use Rattle.std.proofs.Common.{◌≡◌, ◌++◌, drop}
use Rattle.std.specs.List.{filter}
use Rattle.pst_joined_spans.specs.Steps.{is_upright}
use Rattle.pst_joined_spans.proofs.join.upright.Given as goal

abbrev pub invariant-loop-span : goal.invariant-loop-span
invariant-loop-span l = l.found.items ++ filter is_upright (drop l.span-index l.spans) ≡ filter is_upright l.spans
