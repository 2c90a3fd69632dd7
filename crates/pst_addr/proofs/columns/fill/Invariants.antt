use Rattle.std.proofs.Common.{◌≡◌, ◌+◌, ◌*◌, ◌<◌, ℕ, get_or}
use Rattle.pst_scen.specs.Rows.{row_words}
use Rattle.pst_addr.proofs.columns.fill.Given as goal

abbrev pub invariant-loop-a : goal.invariant-loop-a
invariant-loop-a l = (b : ℕ) → b < l.a → get_or l.column b 0 ≡ get_or l.rows.words (b * row_words l.rows.size + l.place) 0
