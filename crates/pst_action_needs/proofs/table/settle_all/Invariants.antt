use Rattle.pst_action_needs.specs.Inheriting.{AreInherited}
use Rattle.pst_action_needs.proofs.table.settle_all.Given as goal

abbrev pub invariant-loop-action : goal.invariant-loop-action
invariant-loop-action l = AreInherited l.sites l.index l.table.rows.items
