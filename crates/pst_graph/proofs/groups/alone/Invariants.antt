use Rattle.std.proofs.Common.{◌≡◌, ◌<◌, ℕ, length, get_or}
use Rattle.pst_graph.proofs.groups.alone.Given as goal

abbrev pub invariant-loop-a : goal.invariant-loop-a
invariant-loop-a l = record { many : length l.groups.items ≡ l.a; own : (a : ℕ) → a < l.a → get_or l.groups.items a 0 ≡ a }
