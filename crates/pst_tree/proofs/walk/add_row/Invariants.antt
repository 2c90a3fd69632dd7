use Rattle.std.proofs.Common.{◌≡◌, ◌++◌, length, reverse}
use Rattle.std.specs.List.{filter_map}
use Rattle.pst_tree.specs.Walked.{pending_in, pending_of}
use Rattle.pst_tree.proofs.walk.add_row.Given as goal

abbrev pub invariant-loop-declared : goal.invariant-loop-declared
invariant-loop-declared l =
    filter_map (pending_of l.index l.parent) l.left ++ reverse l.pending.items ≡ pending_in l.index l.parent l.component ++ reverse l.initial.pending.items

abbrev pub decreases-loop-declared : goal.decreases-loop-declared
decreases-loop-declared l = length l.left
