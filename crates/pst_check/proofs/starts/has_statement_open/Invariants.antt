use Rattle.std.proofs.Common.{◌<◌, ℕ}
use Rattle.pst_check.specs.Tests.{IsStatementOpen}
use Rattle.pst_check.proofs.starts.has_statement_open.Given as goal

abbrev pub invariant-loop-a : goal.invariant-loop-a
invariant-loop-a l = (a : ℕ) → a < l.a → IsStatementOpen l.scenario l.past l.b a → ⊥
