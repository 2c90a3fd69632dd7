use Rattle.std.proofs.Common.{◌≡◌, ◌≢◌, None, Some}
use Rattle.pst_book.proofs.Changing.{Changed}
use Rattle.pst_book.proofs.tables.free.Given as goal

abbrev pub invariant-loop-lane : goal.invariant-loop-lane
invariant-loop-lane l = Changed None (λ m v w. (v ≡ Some l.act → w ≡ None) × (v ≢ Some l.act → w ≡ v)) l.fn.holders l.holders l.lane
