-- The uses in the rows of an expression are those in its lists.
use Rattle.std.proofs.Common.{◌≡◌, ◌++◌, ◌∷◌, List, refl, ap, sym, ◌∙◌}
use Rattle.std.specs.Prelude.{map}
use Rattle.std.specs.List.{flat_map}
use Rattle.std.specs.Global.{Vec}
use Rattle.pst_ast.specs.declared.expression.PathNode.{Row_of-NextPart, end_of-NextPart, more_of-NextPart, items-the_row-NextPart, items_hidden-the_row-NextPart-0}
use Rattle.pst_ast.specs.declared.expression.PathNode.TheVariants as the_path
use Rattle.pst_ast.specs.declared.expression.PartNode.{PartNode}
use Rattle.pst_ast.specs.declared.expression.NextPart.{NextPart, NextPart'}
use Rattle.pst_ast.specs.declared.expression.ExprNode.TheBlock.{hidden-the_row-NextPart-0, items-the_row-NextRange, items_shown-the_row-NextRange-1}
use Rattle.pst_ast.specs.declared.expression.RangesNode.{RangesNode, RangesNode', out-RangesNode, Row_of-NextRange, end_of-NextRange, more_of-NextRange}
use Rattle.pst_ast.specs.declared.expression.NextRange.{NextRange}
use Rattle.pst_ast.specs.ExpressionView.{view_path, view_part, view_next_part, view_next_part_row, view_range, view_ranges, view_next_range, view_next_range_row}
use Rattle.pst_ast.specs.declared.environment.Environment.{Environment}
use Rattle.pst_ast.specs.declared.referent.PathPart.{PathPart}
use Rattle.pst_ast.specs.Uses.{Use, Reads, part_of, parts_of, path_uses, part_uses, next_part_uses, dotted_uses, ranges_uses, range_uses, next_range_uses, comma_range_uses, end_uses, ends_uses, next_ends}
use Rattle.pst_walk_parts.specs.Shown.{dotted_part}

abbrev in_part : Environment → NextPart → List Use
in_part at next = dotted_uses at (view_next_part next)

abbrev in_range : Environment → NextRange → List Use
in_range at next = comma_range_uses at (view_next_range next)

abbrev as_part : NextPart → PathPart
as_part next = dotted_part (view_next_part next)

parts_row : (at : Environment) {n : _} (k : Row_of-NextPart n) → next_part_uses at (view_next_part_row k) ≡ flat_map (in_part at) (items-the_row-NextPart n k)
parts_row at end_of-NextPart = refl
parts_row at (more_of-NextPart head tail) = ap (λ (us : List Use). in_part at head ++ us) (parts_row at tail)

pub names_row : {n : _} (k : Row_of-NextPart n) → parts_of (view_next_part_row k) ≡ map as_part (items-the_row-NextPart n k)
names_row end_of-NextPart = refl
names_row (more_of-NextPart (NextPart' dot part) tail) = ap (λ (ps : List PathPart). part_of (view_part part) ∷ ps) (names_row tail)

pub dotted_uses_are : (at : Environment) (first : PartNode) (v : Vec NextPart) → path_uses at (view_path (the_path.Dotted first v)) ≡ Reads at (part_of (view_part first)) (map (λ (n : NextPart). dotted_part (view_next_part n)) v.items) ∷ (part_uses at (view_part first) ++ flat_map (λ next. dotted_uses at (view_next_part next)) v.items)
dotted_uses_are at first v =
    ap (λ (ps : List PathPart). Reads at (part_of (view_part first)) ps ∷ (part_uses at (view_part first) ++ next_part_uses at (view_next_part_row (hidden-the_row-NextPart-0 v)))) (names_row (hidden-the_row-NextPart-0 v) ∙ ap (map as_part) (items_hidden-the_row-NextPart-0 v))
    ∙ ap (λ (us : List Use). Reads at (part_of (view_part first)) (map as_part v.items) ∷ (part_uses at (view_part first) ++ us)) (parts_row at (hidden-the_row-NextPart-0 v) ∙ ap (flat_map (in_part at)) (items_hidden-the_row-NextPart-0 v))

ranges_row : (at : Environment) {n : _} (k : Row_of-NextRange n) → next_range_uses at (view_next_range_row k) ≡ flat_map (in_range at) (items-the_row-NextRange n k)
ranges_row at end_of-NextRange = refl
ranges_row at (more_of-NextRange comma range tail) = ap (λ (us : List Use). in_range at record { comma = comma; range = range } ++ us) (ranges_row at tail)

pub ranges_uses_are : (at : Environment) (r : RangesNode) → ranges_uses at (view_ranges r) ≡ range_uses at (view_range (out-RangesNode r).first.value) ++ flat_map (λ next. comma_range_uses at (view_next_range next)) (out-RangesNode r).rest.items
unfolding out-RangesNode denote.Hole.Carrier.out
ranges_uses_are at (RangesNode' pointer first shape rest) = ap (λ (us : List Use). range_uses at (view_range first) ++ us) (ranges_row at rest ∙ ap (flat_map (in_range at)) (sym (items_shown-the_row-NextRange-1 shape rest)))

abbrev ends_in : Environment → NextRange → List Use
ends_in at next = end_uses at (view_range next.range)

ends_row : (at : Environment) {n : _} (k : Row_of-NextRange n) → flat_map (end_uses at) (next_ends (view_next_range_row k)) ≡ flat_map (ends_in at) (items-the_row-NextRange n k)
ends_row at end_of-NextRange = refl
ends_row at (more_of-NextRange comma range tail) = ap (λ (us : List Use). end_uses at (view_range range) ++ us) (ends_row at tail)

pub ends_uses_are : (at : Environment) (r : RangesNode) → ends_uses at (view_ranges r) ≡ end_uses at (view_range (out-RangesNode r).first.value) ++ flat_map (λ next. end_uses at (view_range next.range)) (out-RangesNode r).rest.items
unfolding out-RangesNode denote.Hole.Carrier.out
ends_uses_are at (RangesNode' pointer first shape rest) = ap (λ (us : List Use). end_uses at (view_range first) ++ us) (ends_row at rest ∙ ap (flat_map (ends_in at)) (sym (items_shown-the_row-NextRange-1 shape rest)))
