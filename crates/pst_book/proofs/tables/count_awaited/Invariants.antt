use Rattle.std.proofs.Common.{◌≡◌, ◌<◌, ℕ, length, get_or}
use Rattle.pst_scen.specs.Rows.{Has}
use Rattle.pst_book.specs.Tables.{AreSoManyOf}
use Rattle.pst_book.proofs.tables.count_awaited.Given as goal

abbrev pub invariant-loop-act : goal.invariant-loop-act
invariant-loop-act l = record {
  many : length l.awaited ≡ length l.plan.groups;
  each : (m : ℕ) → m < length l.plan.groups → AreSoManyOf (λ b. (b < l.act) × Has l.plan.must b m) (get_or l.awaited m 0);
}
