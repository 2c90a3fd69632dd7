use Rattle.std.proofs.Common.{◌/◌, ◌<◌, ℕ}
use Rattle.pst_scen.specs.Rows.{Has}
use Rattle.pst_square.specs.Marks.{IsMarked}
use Rattle.pst_addr.proofs.needed.is_beyond.Given as goal

abbrev pub invariant-loop-place : goal.invariant-loop-place
invariant-loop-place l = (m : ℕ) → m / 64 < l.place → IsMarked l.set m → Has l.rows l.a m
