-- Ranges as they are gone through.
use Rattle.pst_ast.specs.ExpressionTree.{RangeTree}
use Rattle.pst_ast.specs.ExpressionView.{view_range}
use Rattle.pst_ast.specs.declared.expression.NextRange.{NextRange}

-- a range behind the first
abbrev pub as_range : NextRange → RangeTree
as_range next = view_range next.range
