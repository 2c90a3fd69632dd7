-- Tables of nodes, and what they tell of the order of statements.
use Rattle.std.specs.Prelude.{List, length}
use Rattle.pst_scen.specs.declared.tree.Node.{Node}
use Rattle.pst_nodes.specs.declared.tables.Tables.{Tables}
use Rattle.pst_nodes.specs.Tables.{AreEnds, AreCounts, AreLeaves}

pub record AreTables (nodes : List Node) (tables : Tables) : Type 0 where
  pub ends : AreEnds nodes tables.ends.items
  pub counts : AreCounts nodes tables.counts.items
  pub leaves : AreLeaves nodes tables.leaves.items (length nodes)
