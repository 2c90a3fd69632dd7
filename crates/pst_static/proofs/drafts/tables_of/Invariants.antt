use Rattle.pst_static.specs.Drafts.{AreTables}
use Rattle.pst_static.proofs.drafts.tables_of.Given as goal

abbrev pub invariant-loop-lane : goal.invariant-loop-lane
invariant-loop-lane l = AreTables l._lane l.count l.tables.items
