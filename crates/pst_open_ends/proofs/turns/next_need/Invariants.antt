use Rattle.std.proofs.Common.{◌-◌, length}
use Rattle.pst_open_ends.specs.Turns.{AreDone}
use Rattle.pst_open_ends.proofs.turns.next_need.Given as goal

abbrev pub invariant-loop-number : goal.invariant-loop-number
invariant-loop-number l = AreDone l.ties l.acts l.number

abbrev pub decreases-loop-number : goal.decreases-loop-number
decreases-loop-number l = length l.acts - l.number
