use Rattle.std.proofs.Common.{◌<◌, ℕ, length, get_or}
use Rattle.pst_scen.specs.Rows.{Has}
use Rattle.pst_book.specs.Tables.{AreSoManyOf}
use Rattle.pst_tallies.specs.Tallies.{counts_in}
use Rattle.pst_tallies.proofs.tallies.count_awaited.Given as goal

abbrev pub invariant-loop-act : goal.invariant-loop-act
invariant-loop-act l = (m : ℕ) → m < length l.plan.groups → AreSoManyOf (λ b. (b < l.act) × Has l.plan.must b m) (get_or (counts_in (length l.plan.groups) l.tally) m 0)
