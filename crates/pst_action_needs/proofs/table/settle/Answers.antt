use Rattle.std.proofs.Common.{sym, subst}
use Rattle.pst_action_needs.specs.Inheriting.{AreInherited}
use Rattle.pst_action_needs.proofs.Rowed.{on_ok, one_kept}
use Rattle.pst_action_needs.proofs.table.settle.Goals as goal

pub returns : goal.returns
returns c =
    on_ok c.keep.result
    (λ kept. subst (AreInherited c.args.sites.now c.args.index.now) (sym kept) (one_kept c.args.sites.now c.args.index.now c.args.table.now.rows.items c.in_ok-row.row c.requires.inherited c.in_ok-row.ensures.inherited))
    c.keep.ensures
