use Rattle.pst_members.specs.Kept.{AreTables}
use Rattle.pst_index.proofs.tabled.tables_of.Given as goal

abbrev pub invariant-loop-action : goal.invariant-loop-action
invariant-loop-action l = AreTables l.index l.tables
