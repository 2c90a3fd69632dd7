-- The inner `in`s in the rows of an expression are those in its lists.
use Rattle.std.proofs.Common.{◌≡◌, ◌++◌, List, refl, ap, sym, ◌∙◌, Bool}
use Rattle.std.specs.List.{flat_map}
use Rattle.std.specs.Global.{Vec}
use Rattle.pst_base.specs.declared.position.Place.{Place}
use Rattle.pst_ast.specs.declared.expression.PathNode.{Row_of-NextPart, end_of-NextPart, more_of-NextPart, items-the_row-NextPart, items_hidden-the_row-NextPart-0}
use Rattle.pst_ast.specs.declared.expression.PathNode.TheVariants as the_path
use Rattle.pst_ast.specs.declared.expression.PartNode.{PartNode}
use Rattle.pst_ast.specs.declared.expression.NextPart.{NextPart, NextPart', out-NextPart}
use Rattle.pst_ast.specs.declared.expression.ExprNode.TheBlock.{hidden-the_row-NextPart-0, items-the_row-NextRange, items_shown-the_row-NextRange-1}
use Rattle.pst_ast.specs.declared.expression.RangesNode.{RangesNode, RangesNode', out-RangesNode, Row_of-NextRange, end_of-NextRange, more_of-NextRange}
use Rattle.pst_ast.specs.declared.expression.NextRange.{NextRange}
use Rattle.pst_ast.specs.ExpressionView.{view_path, view_part, view_next_part, view_next_part_row, view_range, view_ranges, view_next_range, view_next_range_row}
use Rattle.pst_type_rules.specs.Places.{path_ins, part_ins, next_part_ins, dotted_ins, ranges_ins, range_ins, next_range_ins, comma_range_ins}

module _ (within : Bool) where
  abbrev in_part : NextPart → List Place
  in_part next = dotted_ins within (view_next_part next)

  abbrev in_range : NextRange → List Place
  in_range next = comma_range_ins within (view_next_range next)

  pub dotted_is : (next : NextPart) → part_ins within (view_part (out-NextPart next).part) ≡ dotted_ins within (view_next_part next)
  unfolding out-NextPart denote.Hole.Carrier.out
  dotted_is (NextPart' dot part) = refl

  parts_row : {n : _} (k : Row_of-NextPart n) → next_part_ins within (view_next_part_row k) ≡ flat_map in_part (items-the_row-NextPart n k)
  parts_row end_of-NextPart = refl
  parts_row (more_of-NextPart head tail) = ap (λ (ps : List Place). in_part head ++ ps) (parts_row tail)

  pub dotted_ins_are : (first : PartNode) (v : Vec NextPart) → path_ins within (view_path (the_path.Dotted first v)) ≡ part_ins within (view_part first) ++ flat_map (λ next. dotted_ins within (view_next_part next)) v.items
  dotted_ins_are first v = ap (λ (ps : List Place). part_ins within (view_part first) ++ ps) (parts_row (hidden-the_row-NextPart-0 v) ∙ ap (flat_map in_part) (items_hidden-the_row-NextPart-0 v))

  ranges_row : {n : _} (k : Row_of-NextRange n) → next_range_ins within (view_next_range_row k) ≡ flat_map in_range (items-the_row-NextRange n k)
  ranges_row end_of-NextRange = refl
  ranges_row (more_of-NextRange comma range tail) = ap (λ (ps : List Place). in_range record { comma = comma; range = range } ++ ps) (ranges_row tail)

  pub ranges_ins_are : (r : RangesNode) → ranges_ins within (view_ranges r) ≡ range_ins within (view_range (out-RangesNode r).first.value) ++ flat_map (λ next. comma_range_ins within (view_next_range next)) (out-RangesNode r).rest.items
  unfolding out-RangesNode denote.Hole.Carrier.out
  ranges_ins_are (RangesNode' pointer first shape rest) = ap (λ (ps : List Place). range_ins within (view_range first) ++ ps) (ranges_row rest ∙ ap (flat_map in_range) (sym (items_shown-the_row-NextRange-1 shape rest)))
