use Rattle.pst_sources.specs.Numbered.{AreFieldRows}
use Rattle.pst_sources.specs.Shown.{sources_of}
use Rattle.pst_sources.proofs.fields.rows_of.Given as goal

abbrev pub invariant-loop-declaration : goal.invariant-loop-declaration
invariant-loop-declaration l = AreFieldRows (sources_of l.known) l.rows.items
