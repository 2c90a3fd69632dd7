use Rattle.std.proofs.Common.{ℕ, ◌<◌, ◌≤◌}
use Rattle.std.specs.Prelude.{slice_index_or}
use Rattle.pst_loops.specs.Apart.{level}
use Rattle.pst_loops.proofs.apart.are_from.Given as goal

abbrev pub invariant-loop-next : goal.invariant-loop-next
invariant-loop-next l = (k : ℕ) → k < l.next-index → l.least ≤ level l.levels (slice_index_or l.row k 0)
