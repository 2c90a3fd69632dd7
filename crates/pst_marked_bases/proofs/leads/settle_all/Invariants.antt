use Rattle.pst_marked_bases.specs.Leads.{AreLeads}
use Rattle.pst_marked_bases.proofs.leads.settle_all.Given as goal

abbrev pub invariant-loop-owner : goal.invariant-loop-owner
invariant-loop-owner l = AreLeads l.marks l.index l.table.rows.items
