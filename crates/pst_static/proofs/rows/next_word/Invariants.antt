use Rattle.std.proofs.Common.{◌/◌, ◌<◌, ◌≤◌, ℕ}
use Rattle.pst_scen.specs.Rows.{Has}
use Rattle.pst_static.proofs.rows.next_word.Given as goal

abbrev pub invariant-loop-place : goal.invariant-loop-place
invariant-loop-place l = (m : ℕ) → l.from ≤ m / 64 → m / 64 < l.place → Has l.rows l.a m → ⊥
