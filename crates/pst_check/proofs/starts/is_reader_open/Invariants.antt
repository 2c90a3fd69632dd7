use Rattle.std.proofs.Common.{◌<◌, ℕ}
use Rattle.pst_check.specs.Tests.{IsOpenReader}
use Rattle.pst_check.proofs.starts.is_reader_open.Given as goal

abbrev pub invariant-loop-a : goal.invariant-loop-a
invariant-loop-a l = (a : ℕ) → a < l.a → IsOpenReader l.scenario l.past l.b l.writer a → ⊥
