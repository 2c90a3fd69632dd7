use Rattle.pst_marked_bases.specs.Leads.{AreLeads}
use Rattle.pst_marked_bases.proofs.leads.add_all.Given as goal

abbrev pub invariant-loop-declaration : goal.invariant-loop-declaration
invariant-loop-declaration l = AreLeads l.marks l.index l.table.rows.items
