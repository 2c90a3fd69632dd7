use Rattle.std.proofs.Common.{◌≡◌, ◌++◌, drop}
use Rattle.pst_joined_spans.specs.Steps.{cuts}
use Rattle.pst_joined_spans.proofs.common.add_cuts.Given as goal

abbrev pub invariant-loop-span : goal.invariant-loop-span
invariant-loop-span l = l.found.items ++ cuts l.range (drop l.span-index l.spans) ≡ l.initial.found.items ++ cuts l.range l.spans
