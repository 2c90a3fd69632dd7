-- The rows of ranges as lists.
use Rattle.std.proofs.Common.{◌≡◌, ◌∷◌, ℕ, List, refl, ap, sym, ◌∙◌}
use Rattle.std.specs.Prelude.{ℤ, Option, map}
use Rattle.pst_ast.specs.declared.expression.ExprNode.TheBlock.{items-the_row-NextRange, items_shown-the_row-NextRange-1}
use Rattle.pst_ast.specs.declared.expression.RangesNode.{RangesNode, RangesNode', out-RangesNode, Row_of-NextRange, end_of-NextRange, more_of-NextRange}
use Rattle.pst_ast.specs.ExpressionTree.{PathTree, RangeTree}
use Rattle.pst_ast.specs.ExpressionView.{view_range, view_ranges, view_next_range_row}
use Rattle.pst_expr.specs.declared.tree.BinaryOp.TheVariants.{Or}
use Rattle.pst_expr.specs.Value.{binary_value}
use Rattle.pst_type_rules.specs.Values.{in_ranges, in_one, or_in_rest}
use Rattle.pst_evaluate.specs.Known.{or_in_each}
use Rattle.pst_evaluate.specs.Listed.{as_range}

module _ (path : PathTree → Option ℤ) (x : Option ℤ) where
  ranges_row : (before : Option ℤ) {n : _} (k : Row_of-NextRange n) → or_in_rest path x before (view_next_range_row k) ≡ or_in_each path x before (map as_range (items-the_row-NextRange n k))
  ranges_row before end_of-NextRange = refl
  ranges_row before (more_of-NextRange comma range tail) = ranges_row (binary_value Or before (in_one path x (view_range range))) tail

  pub in_ranges_are : (r : RangesNode) → in_ranges path x (view_ranges r) ≡ or_in_each path x (in_one path x (view_range (out-RangesNode r).first.value)) (map as_range (out-RangesNode r).rest.items)
  unfolding out-RangesNode denote.Hole.Carrier.out
  in_ranges_are (RangesNode' pointer first shape rest) =
      ranges_row (in_one path x (view_range first)) rest
      ∙ ap (λ (rs : _). or_in_each path x (in_one path x (view_range first)) (map as_range rs)) (sym (items_shown-the_row-NextRange-1 shape rest))
