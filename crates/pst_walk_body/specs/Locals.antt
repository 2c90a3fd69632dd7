-- Scopes of locals that end.
use Rattle.std.specs.Prelude.{ℕ, drop}
use Rattle.pst_ast.specs.declared.environment.Environment.{Environment}

-- without so many of the innermost
abbrev pub without_inner : ℕ → Environment → Environment
without_inner n at = record at { inner = drop n at.inner }
