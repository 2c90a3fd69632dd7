-- Constants by the facts.
use Rattle.std.specs.Prelude.{ℤ, Option}
use Rattle.pst_ast.specs.ExpressionTree.{ExprTree}
use Rattle.pst_ast.specs.declared.environment.Environment.{Environment}
use Rattle.pst_evaluate.specs.Kept.{constant_by, known_in}
use Rattle.pst_range_rules.specs.declared.facts.RangeFacts.{RangeFacts}

-- the value of a constant
abbrev pub constant_at : RangeFacts → Environment → ExprTree → Option ℤ
constant_at f at expr = constant_by f.index.now f.names.now (known_in f.enums.now.items) at expr
