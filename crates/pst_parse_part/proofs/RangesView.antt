-- Ranges as the parser gives them.
use Rattle.pst_ast.specs.ExpressionTree.{MakeRanges, MoreNextRangeRow}
use Rattle.pst_ast.specs.ExpressionView.{view_ranges, view_range, view_next_range}
use Rattle.pst_ast.specs.declared.expression.NextRange.{NextRange}
use Rattle.pst_ast.specs.declared.expression.RangeNode.{RangeNode}
use Rattle.pst_ast.specs.declared.expression.RangesNode.{roll-RangesNode}
use Rattle.pst_parse_part.specs.Ranges.{range_row}
use Rattle.pst_parse_operator.proofs.Turns.{ranges_view}
use Rattle.pst_parse_operator.specs.Families as theirs
use Rattle.std.proofs.Common.{refl, ap, ◌∙◌, ◌≡◌, List, [], ◌∷◌, map}
use Rattle.std.specs.Global.{Vec, Box}

rows_same : (ranges : List NextRange) → theirs.range_row ranges ≡ range_row (map view_next_range ranges)
rows_same [] = refl
rows_same (range ∷ ranges) = ap (MoreNextRangeRow (view_next_range range)) (rows_same ranges)

-- ranges as the parser gives them
pub ranges_seen : (first : Box RangeNode) (v : Vec NextRange) → view_ranges (roll-RangesNode (record { first = first; rest = v })) ≡ MakeRanges (view_range first.value) (range_row (map view_next_range v.items))
ranges_seen first v = ranges_view first v ∙ ap (MakeRanges (view_range first.value)) (rows_same v.items)
