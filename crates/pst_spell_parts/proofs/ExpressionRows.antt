-- The parts of a row in a tree are spelled as those of its list.
use Rattle.std.proofs.Common.{◌≡◌, ◌++◌, List, refl, ap, sym, ◌∙◌}
use Rattle.std.specs.List.{flat_map}
use Rattle.std.specs.Global.{Vec}
use Rattle.pst_token.specs.declared.token.Token.{Token}
use Rattle.pst_ast.specs.declared.expression.PathNode.{Row_of-NextPart, end_of-NextPart, more_of-NextPart, items-the_row-NextPart, items_hidden-the_row-NextPart-0}
use Rattle.pst_ast.specs.declared.expression.PathNode.TheVariants as the_path
use Rattle.pst_ast.specs.declared.expression.PartNode.{PartNode}
use Rattle.pst_ast.specs.declared.expression.NextPart.{NextPart}
use Rattle.pst_ast.specs.declared.expression.ExprNode.TheBlock.{hidden-the_row-NextPart-0, items-the_row-NextRange, items_shown-the_row-NextRange-1}
use Rattle.pst_ast.specs.declared.expression.RangesNode.{RangesNode, RangesNode', out-RangesNode, Row_of-NextRange, end_of-NextRange, more_of-NextRange}
use Rattle.pst_ast.specs.declared.expression.NextRange.{NextRange}
use Rattle.pst_ast.specs.ExpressionView.{view_path, view_part, view_next_part, view_next_part_row, view_range, view_ranges, view_next_range, view_next_range_row}
use Rattle.pst_ast.specs.ExpressionSpelling.{spell_path, spell_part, spell_next_part, spell_next_part_row, spell_range, spell_ranges, spell_next_range, spell_next_range_row}

abbrev of_part : NextPart → List Token
of_part next = spell_next_part (view_next_part next)

abbrev of_range : NextRange → List Token
of_range next = spell_next_range (view_next_range next)

parts_row : {n : _} (k : Row_of-NextPart n) → spell_next_part_row (view_next_part_row k) ≡ flat_map of_part (items-the_row-NextPart n k)
parts_row end_of-NextPart = refl
parts_row (more_of-NextPart head tail) = ap (λ (ts : List Token). of_part head ++ ts) (parts_row tail)

pub dotted_spells : (first : PartNode) (v : Vec NextPart) → spell_path (view_path (the_path.Dotted first v)) ≡ spell_part (view_part first) ++ flat_map (λ next. spell_next_part (view_next_part next)) v.items
dotted_spells first v = ap (λ (ts : List Token). spell_part (view_part first) ++ ts) (parts_row (hidden-the_row-NextPart-0 v) ∙ ap (flat_map of_part) (items_hidden-the_row-NextPart-0 v))

ranges_row : {n : _} (k : Row_of-NextRange n) → spell_next_range_row (view_next_range_row k) ≡ flat_map of_range (items-the_row-NextRange n k)
ranges_row end_of-NextRange = refl
ranges_row (more_of-NextRange comma range tail) = ap (λ (ts : List Token). of_range record { comma = comma; range = range } ++ ts) (ranges_row tail)

pub ranges_spell : (r : RangesNode) → spell_ranges (view_ranges r) ≡ spell_range (view_range (out-RangesNode r).first.value) ++ flat_map (λ next. spell_next_range (view_next_range next)) (out-RangesNode r).rest.items
unfolding out-RangesNode denote.Hole.Carrier.out
ranges_spell (RangesNode' pointer first shape rest) = ap (λ (ts : List Token). spell_range (view_range first) ++ ts) (ranges_row rest ∙ ap (flat_map of_range) (sym (items_shown-the_row-NextRange-1 shape rest)))
