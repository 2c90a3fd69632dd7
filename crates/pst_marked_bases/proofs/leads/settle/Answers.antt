use Rattle.std.proofs.Common.{sym, subst}
use Rattle.pst_marked_bases.specs.Leads.{AreLeads}
use Rattle.pst_marked_bases.proofs.Leading.{on_ok, one_kept}
use Rattle.pst_marked_bases.proofs.leads.settle.Goals as goal

pub returns : goal.returns
returns c =
    on_ok c.keep.result
    (λ kept. subst (AreLeads c.args.marks.now c.args.index.now) (sym kept) (one_kept c.args.marks.now c.args.index.now c.args.table.now.rows.items c.led-row.result c.requires c.led-row.ensures.lead))
    c.keep.ensures
