use Rattle.std.proofs.Common.{◌≡◌, false, drop}
use Rattle.pst_tree.specs.InheritedFound.{compound_from}
use Rattle.pst_tree.proofs.sites.Sites.is_compound.Given as goal

abbrev pub invariant-loop-base : goal.invariant-loop-base
invariant-loop-base l = compound_from l.self l.compound (drop l.base-index l.bases) ≡ compound_from l.self false l.bases
