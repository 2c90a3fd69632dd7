use Rattle.std.proofs.Common.{◌≡◌}
use Rattle.pst_numbering.proofs.table.SlotTable.map_all.Given as goal

abbrev pub invariant-slots : goal.invariant-slots
invariant-slots l = l.self ≡ l.initial.self
