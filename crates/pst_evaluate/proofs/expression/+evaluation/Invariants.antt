use Rattle.std.proofs.Common.{◌≡◌, drop, map}
use Rattle.pst_evaluate.specs.Evaluated.{value_in}
use Rattle.pst_evaluate.specs.Known.{path_known, or_in_each}
use Rattle.pst_evaluate.specs.Listed.{as_range}
use Rattle.pst_evaluate.proofs.expression.+evaluation.Given as goal

abbrev pub invariant-is_in_rest-loop-next : goal.invariant-is_in_rest-loop-next
invariant-is_in_rest-loop-next l = or_in_each (path_known l.known l.at) (value_in l.value) (value_in l.found) (map as_range (drop l.next-index l.ranges)) ≡ or_in_each (path_known l.known l.at) (value_in l.value) (value_in l.initial.found) (map as_range l.ranges)
