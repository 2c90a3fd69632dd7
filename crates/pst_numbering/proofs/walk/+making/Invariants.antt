use Rattle.std.proofs.Common.{◌≡◌, ◌+◌, ◌*◌, drop, map}
use Rattle.std.specs.Prelude.{max}
use Rattle.pst_ast.specs.declared.expression.ExprNode.{size-ExprNode}
use Rattle.pst_ast.specs.declared.expression.UnaryNode.{size-UnaryNode}
use Rattle.pst_ast.specs.declared.expression.PrimaryNode.{size-PrimaryNode}
use Rattle.pst_ast.specs.declared.expression.PathNode.{size-PathNode}
use Rattle.pst_ast.specs.declared.expression.PartNode.{size-PartNode}
use Rattle.pst_ast.specs.declared.expression.RangesNode.{size-RangesNode}
use Rattle.pst_ast.specs.declared.expression.RangeNode.{size-RangeNode}
use Rattle.pst_ast.specs.ExpressionView.{view_expr, view_next_part, view_ranges}
use Rattle.pst_expr.specs.Tree.{view}
use Rattle.pst_model.specs.ConstraintTree.{SlotTree}
use Rattle.pst_terms.specs.Terms.{Term, term_of, ranges_term}
use Rattle.pst_terms.specs.Slots.{with_term, numbered}
use Rattle.pst_numbering.specs.Kept.{view_all}
use Rattle.pst_numbering.specs.Made.{list_index, as_range, or_each}
use Rattle.pst_numbering.proofs.walk.+making.Given as goal

abbrev pub invariant-add_next_element-loop-next : goal.invariant-add_next_element-loop-next
invariant-add_next_element-loop-next g l = record {
  slots : view_all l.slots ≡ view_all l.initial.slots;
  index : list_index (g.R.PathReader.reads l.reader) (map view_next_part (drop l.next-index l.parts)) ≡ list_index (g.R.PathReader.reads l.reader) (map view_next_part l.parts);
}

abbrev pub invariant-add_ranges-loop-next : goal.invariant-add_ranges-loop-next
invariant-add_ranges-loop-next g l = record {
  before : Term SlotTree;
  slots : view_all l.slots ≡ with_term (view_all l.fn.slots) before;
  found : view l.found ≡ numbered (view_all l.slots) before;
  rest : or_each (g.R.PathReader.reads l.reader) (term_of (g.R.PathReader.reads l.reader) (view_expr l.left)) before (map as_range (drop l.next-index l.rest)) ≡ ranges_term (g.R.PathReader.reads l.reader) (term_of (g.R.PathReader.reads l.reader) (view_expr l.left)) (view_ranges l.ranges);
}

-- what is walked behind `in` counts by its deepest part, of those that are walked together

abbrev pub decreases-add_operators : goal.decreases-add_operators
decreases-add_operators g l = 8 * size-ExprNode l.expr.now

abbrev pub decreases-add_unary : goal.decreases-add_unary
decreases-add_unary g l = 8 * size-UnaryNode l.unary.now

abbrev pub decreases-add_primary : goal.decreases-add_primary
decreases-add_primary g l = 8 * size-PrimaryNode l.primary.now

abbrev pub decreases-add_path : goal.decreases-add_path
decreases-add_path g l = 8 * size-PathNode l.path.now + 1

abbrev pub decreases-add_element : goal.decreases-add_element
decreases-add_element g l = 8 * size-PathNode l.path.now

abbrev pub decreases-add_part_element : goal.decreases-add_part_element
decreases-add_part_element g l = 8 * size-PartNode l.part.now

abbrev pub decreases-add_next_element : goal.decreases-add_next_element
decreases-add_next_element g l = 8 * goal.size-add_next_element g l + 1

abbrev pub decreases-add_ranges : goal.decreases-add_ranges
decreases-add_ranges g l = 8 * max (size-ExprNode l.left.now) (size-RangesNode l.ranges.now) + 3

abbrev pub decreases-add_range : goal.decreases-add_range
decreases-add_range g l = 8 * max (size-ExprNode l.left.now) (size-RangeNode l.range.now) + 2

abbrev pub decreases-add_comparison : goal.decreases-add_comparison
decreases-add_comparison g l = 8 * max (size-ExprNode l.left.now) (size-ExprNode l.right.now) + 1
