use Rattle.std.proofs.Common.{◌≡◌, ◌<◌, ◌+◌, ℕ, length, get_or}
use Rattle.pst_nodes.proofs.tables.own_ends.Given as goal

abbrev pub invariant-loop-n : goal.invariant-loop-n
invariant-loop-n l = record { many : length l.ends.items ≡ l.n; own : (n : ℕ) → n < l.n → get_or l.ends.items n 0 ≡ n + 1 }
