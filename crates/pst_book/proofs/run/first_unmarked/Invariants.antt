use Rattle.std.proofs.Common.{◌≡◌, ◌<◌, ◌≤◌, ℕ, get_or, true, false}
use Rattle.pst_book.proofs.run.first_unmarked.Given as goal

abbrev pub invariant-loop-act : goal.invariant-loop-act
invariant-loop-act l = (a : ℕ) → l.from ≤ a → a < l.act → get_or l.marks a false ≡ true
