use Rattle.std.proofs.Common.{◌≡◌, ◌++◌, reverse, vec_len}
use Rattle.pst_marked_bases.proofs.marked.reversed.Given as goal

abbrev pub invariant-loop-base : goal.invariant-loop-base
invariant-loop-base l = l.bases.items ++ reverse l.left.items ≡ reverse l.fn.chain.items

abbrev pub decreases-loop-base : goal.decreases-loop-base
decreases-loop-base l = vec_len l.left
