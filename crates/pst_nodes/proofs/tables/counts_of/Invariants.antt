use Rattle.std.proofs.Common.{◌≡◌, ◌≤◌, ◌+◌, ℕ, length, get_or}
use Rattle.pst_nodes.specs.Tables.{leaf_count}
use Rattle.pst_nodes.proofs.tables.counts_of.Given as goal

abbrev pub invariant-loop-n : goal.invariant-loop-n
invariant-loop-n l = record {
  many : length l.counts.items ≡ l.n + 1;
  each : (n : ℕ) → n ≤ l.n → get_or l.counts.items n 0 ≡ leaf_count l.nodes n;
  now : l.count ≡ leaf_count l.nodes l.n;
  few : l.count ≤ l.n;
}
