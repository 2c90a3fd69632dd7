use Rattle.std.proofs.Common.{◌≡◌, ◌++◌, drop}
use Rattle.pst_joined_spans.specs.Steps.{joined_from}
use Rattle.pst_joined_spans.proofs.join.joined_from.Given as goal

abbrev pub invariant-loop-span : goal.invariant-loop-span
invariant-loop-span l = l.found.items ++ joined_from l.last (drop l.span-index l.rest) ≡ joined_from l.fn.first l.rest
