use Rattle.std.proofs.Common.{vec_len}
use Rattle.pst_members.specs.Kept.{AreTables}
use Rattle.pst_index.proofs.tabled.keep_each.Given as goal

abbrev pub invariant-loop-action : goal.invariant-loop-action
invariant-loop-action l = AreTables l.index l.tables

abbrev pub decreases-loop-action : goal.decreases-loop-action
decreases-loop-action l = vec_len l.chain
