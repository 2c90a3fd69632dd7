-- The rows of ranges as lists.
use Rattle.std.proofs.Common.{◌≡◌, ◌∷◌, List, refl, ap, sym, ◌∙◌}
use Rattle.std.specs.Prelude.{map}
use Rattle.pst_ast.specs.declared.expression.ExprNode.TheBlock.{items-the_row-NextRange, items_shown-the_row-NextRange-1}
use Rattle.pst_ast.specs.declared.expression.RangesNode.{RangesNode, RangesNode', out-RangesNode, Row_of-NextRange, end_of-NextRange, more_of-NextRange}
use Rattle.pst_ast.specs.ExpressionTree.{RangeTree}
use Rattle.pst_ast.specs.ExpressionView.{view_range, view_ranges, view_next_range_row}
use Rattle.pst_ast.specs.Uses.{next_ends}
use Rattle.pst_type_rules.specs.Domains.{ranges_of}
use Rattle.pst_spans.specs.Rows.{as_range}

ranges_row : {n : _} (k : Row_of-NextRange n) → next_ends (view_next_range_row k) ≡ map as_range (items-the_row-NextRange n k)
ranges_row end_of-NextRange = refl
ranges_row (more_of-NextRange comma range tail) = ap (λ (rs : List RangeTree). view_range range ∷ rs) (ranges_row tail)

pub ranges_are : (r : RangesNode) → ranges_of (view_ranges r) ≡ view_range (out-RangesNode r).first.value ∷ map as_range (out-RangesNode r).rest.items
unfolding out-RangesNode denote.Hole.Carrier.out
ranges_are (RangesNode' pointer first shape rest) =
    ap (λ (rs : List RangeTree). view_range first ∷ rs) (ranges_row rest ∙ ap (λ (rs : _). map as_range rs) (sym (items_shown-the_row-NextRange-1 shape rest)))
