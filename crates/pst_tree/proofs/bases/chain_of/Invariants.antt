use Rattle.std.proofs.Common.{◌≡◌, ◌++◌, [], reverse}
use Rattle.std.specs.Option.{option_map_or}
use Rattle.pst_tree.specs.Bases
use Rattle.pst_tree.proofs.bases.chain_of.Given as goal

abbrev pub invariant-loop-at : goal.invariant-loop-at
invariant-loop-at l = option_map_or (Bases.bases_within l.left l.index) l.at [] ++ reverse l.chain.items ≡ Bases.with_bases l.index l.declaration

abbrev pub decreases-loop-at : goal.decreases-loop-at
decreases-loop-at l = l.left
