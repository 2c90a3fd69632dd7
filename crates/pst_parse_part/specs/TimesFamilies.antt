-- The parsers of counts in brackets for each size: each function of the program has one of these.
use Rattle.std.specs.Prelude.{ℕ, suc, Option}
use Rattle.pst_base.specs.declared.position.Place.{Place}
use Rattle.pst_ast.specs.declared.shared.LabelNode.{LabelNode}
use Rattle.pst_ast.specs.ExpressionView.{view_expr}
use Rattle.pst_reading.specs.Gives.{Family}
use Rattle.pst_parse_expr.specs.Constraints.{outermost_at}
use Rattle.pst_parse_part.specs.declared.times.Times.{Times}
use Rattle.pst_parse_part.specs.Times.{label_by, TimesTree, times_count, times_by}

abbrev pub label_family : ℕ → Family LabelNode
label_family depth size prefixes = label_by depth

abbrev pub counted_family : ℕ → Place → Option LabelNode → Family TimesTree
counted_family depth left index size prefixes = times_count (outermost_at (suc size)) depth left index

abbrev pub times_family : ℕ → Family TimesTree
times_family depth size prefixes = times_by (outermost_at (suc size)) depth

abbrev pub view_times : Times → TimesTree
view_times t = (t.left_parenthesis, t.index, view_expr t.count, t.right_parenthesis)
