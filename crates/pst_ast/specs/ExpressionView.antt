-- The trees of the program of expression without where they lie in memory.
use Rattle.pst_ast.specs.ExpressionTree.{ExprTree, ExprUnary, ExprBinary, ExprIn, UnaryTree, UnaryPrefix, UnaryPrimary, PrimaryTree, PrimaryNumber, PrimaryTrue, PrimaryFalse, PrimaryPath, PrimaryGroup, PathTree, PathDotted, PathItem, PathLongItem, PartTree, MakePart, NextPartTree, MakeNextPart, IndexTree, MakeIndex, RangesTree, MakeRanges, NextRangeTree, MakeNextRange, RangeTree, RangeSingle, RangeBetween, NextPartRow, NoNextPartRow, MoreNextPartRow, MaybeIndex, NoIndex, SomeIndex, NextRangeRow, NoNextRangeRow, MoreNextRangeRow}
use Rattle.pst_ast.specs.declared.expression.ExprNode.{ExprNode}
use Rattle.pst_ast.specs.declared.expression.ExprNode.TheVariants as the_expr
use Rattle.pst_ast.specs.declared.expression.UnaryNode.{UnaryNode}
use Rattle.pst_ast.specs.declared.expression.UnaryNode.TheVariants as the_unary
use Rattle.pst_ast.specs.declared.expression.PrimaryNode.{PrimaryNode}
use Rattle.pst_ast.specs.declared.expression.PrimaryNode.TheVariants as the_primary
use Rattle.pst_ast.specs.declared.expression.PathNode.{PathNode, Row_of-NextPart, end_of-NextPart, more_of-NextPart}
use Rattle.pst_ast.specs.declared.expression.PathNode.TheVariants as the_path
use Rattle.pst_ast.specs.declared.expression.PartNode.{PartNode, PartNode', Held-PartNode-index, None', Some'}
use Rattle.pst_ast.specs.declared.expression.NextPart.{NextPart, NextPart'}
use Rattle.pst_ast.specs.declared.expression.IndexNode.{IndexNode}
use Rattle.pst_ast.specs.declared.expression.RangesNode.{RangesNode, RangesNode', Row_of-NextRange, end_of-NextRange, more_of-NextRange}
use Rattle.pst_ast.specs.declared.expression.NextRange.{NextRange}
use Rattle.pst_ast.specs.declared.expression.RangeNode.{RangeNode}
use Rattle.pst_ast.specs.declared.expression.RangeNode.TheVariants as the_range

abbrev mutual
  pub view_expr : ExprNode → ExprTree
  view_expr (the_expr.Unary unary) = ExprUnary (view_unary unary)
  view_expr (the_expr.Binary' pointer left operator place pointer1 right) = ExprBinary (view_expr left) operator place (view_expr right)
  view_expr (the_expr.In' pointer left in_place left_bracket_place ranges right_bracket_place) = ExprIn (view_expr left) in_place left_bracket_place (view_ranges ranges) right_bracket_place

  pub view_unary : UnaryNode → UnaryTree
  view_unary (the_unary.Prefix' operator place pointer operand) = UnaryPrefix operator place (view_unary operand)
  view_unary (the_unary.Primary primary) = UnaryPrimary (view_primary primary)

  pub view_primary : PrimaryNode → PrimaryTree
  view_primary (the_primary.Number number) = PrimaryNumber number
  view_primary (the_primary.True place) = PrimaryTrue place
  view_primary (the_primary.False place) = PrimaryFalse place
  view_primary (the_primary.Path path) = PrimaryPath (view_path path)
  view_primary (the_primary.Group' left_parenthesis_place pointer expr right_parenthesis_place) = PrimaryGroup left_parenthesis_place (view_expr expr) right_parenthesis_place

  pub view_path : PathNode → PathTree
  view_path (the_path.Dotted' first shape rest) = PathDotted (view_part first) (view_next_part_row rest)
  view_path (the_path.Item first colons_place second) = PathItem first colons_place second
  view_path (the_path.LongItem first colons_place second more_colons_place third) = PathLongItem first colons_place second more_colons_place third

  pub view_part : PartNode → PartTree
  view_part (PartNode' name index) = MakePart name (view_maybe_index index)

  pub view_next_part : NextPart → NextPartTree
  view_next_part (NextPart' dot_place part) = MakeNextPart dot_place (view_part part)

  pub view_ranges : RangesNode → RangesTree
  view_ranges (RangesNode' pointer first shape rest) = MakeRanges (view_range first) (view_next_range_row rest)

  pub view_range : RangeNode → RangeTree
  view_range (the_range.Single expr) = RangeSingle (view_expr expr)
  view_range (the_range.Between low dots_place high) = RangeBetween (view_expr low) dots_place (view_expr high)

  pub view_next_part_row : {m : _} → Row_of-NextPart m → NextPartRow
  view_next_part_row end_of-NextPart = NoNextPartRow
  view_next_part_row (more_of-NextPart head tail) = MoreNextPartRow (view_next_part head) (view_next_part_row tail)

  pub view_maybe_index : Held-PartNode-index → MaybeIndex
  view_maybe_index None' = NoIndex
  view_maybe_index (Some' left_bracket_place pointer expr right_bracket_place) = SomeIndex (MakeIndex left_bracket_place (view_expr expr) right_bracket_place)

  pub view_next_range_row : {m : _} → Row_of-NextRange m → NextRangeRow
  view_next_range_row end_of-NextRange = NoNextRangeRow
  view_next_range_row (more_of-NextRange comma_place range tail) = MoreNextRangeRow (MakeNextRange comma_place (view_range range)) (view_next_range_row tail)

-- index = "[" expr "]"
abbrev pub view_index : IndexNode → IndexTree
view_index t = MakeIndex t.left_bracket (view_expr t.expr.value) t.right_bracket

-- "," range
abbrev pub view_next_range : NextRange → NextRangeTree
view_next_range t = MakeNextRange t.comma (view_range t.range)
