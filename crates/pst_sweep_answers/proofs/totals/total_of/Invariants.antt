use Rattle.std.proofs.Common.{◌≡◌, ◌≤◌, ◌*◌, take}
use Rattle.pst_sweep_answers.specs.Texts.{total}
use Rattle.pst_sweep_answers.proofs.totals.total_of.Given as goal

abbrev pub invariant-loop-row : goal.invariant-loop-row
invariant-loop-row l = (l.sum ≡ total (take l.row-index l.rows) l.number) × (l.sum ≤ l.row-index * 4294967295)
