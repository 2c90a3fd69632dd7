use Rattle.std.proofs.Common.{◌≡◌, ◌++◌, reverse, vec_len}
use Rattle.pst_tree.specs.Bases
use Rattle.pst_tree.proofs.bases.with_bases.Given as goal

abbrev pub invariant-loop-base : goal.invariant-loop-base
invariant-loop-base l = l.bases.items ++ reverse l.chain.items ≡ Bases.with_bases l.index l.declaration

abbrev pub decreases-loop-base : goal.decreases-loop-base
decreases-loop-base l = vec_len l.chain
