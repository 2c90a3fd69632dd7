-- What is kept of the bases that are marked.
use Rattle.std.specs.Prelude.{◌≡◌, false, []}
use Rattle.pst_marked_bases.specs.declared.marked.MarkedBases.TheInside.{Inside}
use Rattle.pst_marked_bases.specs.Leads.{AreLeads}

pub record HasLeads (m : Inside) : Type 0 where
  pub leads : AreLeads m.marks m.index.now m.table.rows.items
  pub unmarked : m.has_marks ≡ false → m.marks ≡ []
