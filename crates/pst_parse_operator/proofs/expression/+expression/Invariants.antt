use Rattle.std.proofs.Common.{length, ◌+◌, ◌-◌, ◌*◌}
use Rattle.pst_ast.specs.ExpressionView.{view_expr, view_part, view_range}
use Rattle.pst_parse_operator.specs.Families.{part_row, range_row}
use Rattle.pst_parse_operator.proofs.Loops.{LevelLoop, RangesLoop, PathLoop}
use Rattle.pst_parse_operator.proofs.expression.+expression.Given as goal

abbrev pub decreases-level : goal.decreases-level
decreases-level l = (length l.tokens.now - l.at) * 32 + (l.above + 3)

abbrev pub decreases-operation : goal.decreases-operation
decreases-operation l = (length l.tokens.now - l.at) * 32 + 1

abbrev pub decreases-membership : goal.decreases-membership
decreases-membership l = (length l.tokens.now - l.at) * 32

abbrev pub decreases-ranges : goal.decreases-ranges
decreases-ranges l = (length l.tokens.now - l.at) * 32 + 15

abbrev pub decreases-range : goal.decreases-range
decreases-range l = (length l.tokens.now - l.at) * 32 + 14

abbrev pub decreases-unary : goal.decreases-unary
decreases-unary l = (length l.tokens.now - l.at) * 32 + 2

abbrev pub decreases-primary : goal.decreases-primary
decreases-primary l = (length l.tokens.now - l.at) * 32 + 1

abbrev pub decreases-path : goal.decreases-path
decreases-path l = (length l.tokens.now - l.at) * 32

abbrev pub decreases-next_part : goal.decreases-next_part
decreases-next_part l = (length l.tokens.now - l.at) * 32

abbrev pub decreases-index : goal.decreases-index
decreases-index l = (length l.tokens.now - l.at) * 32

abbrev pub invariant-level-operations : goal.invariant-level-operations
invariant-level-operations l = LevelLoop l.tokens l.fn.at (l.above - 1) l.depth l.before (view_expr l.left) l.place l.count

abbrev pub decreases-level-operations : goal.decreases-level-operations
decreases-level-operations l = length l.tokens - l.place

abbrev pub invariant-path-parts : goal.invariant-path-parts
invariant-path-parts l = PathLoop l.tokens l.fn.at l.depth l.before (view_part l.first) (part_row l.rest.items) l.place l.count

abbrev pub decreases-path-parts : goal.decreases-path-parts
decreases-path-parts l = length l.tokens - l.place

abbrev pub invariant-ranges-more : goal.invariant-ranges-more
invariant-ranges-more l = RangesLoop l.tokens l.fn.at l.depth l.before (view_range l.first.value) (range_row l.rest.items) l.place l.count

abbrev pub decreases-ranges-more : goal.decreases-ranges-more
decreases-ranges-more l = length l.tokens - l.place
