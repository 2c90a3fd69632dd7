use Rattle.std.proofs.Common.{◌≡◌, ◌/◌, ◌<◌, ℕ, get_or, true, false}
use Rattle.pst_scen.specs.Rows.{Has}
use Rattle.pst_static.proofs.rows.mark_blocks.Given as goal

abbrev pub invariant-loop-place : goal.invariant-loop-place
invariant-loop-place l = record {
  kept : (b : ℕ) → get_or l.fn.marks b false ≡ true → get_or l.marks b false ≡ true;
  marked : (m : ℕ) → m < l.rows.size → m / 64 < l.place → Has l.rows l.a m → get_or l.marks (m / 64) false ≡ true;
}
