-- The names of a path as a list.
use Rattle.std.proofs.Common.{◌≡◌, List, ap, ◌∙◌}
use Rattle.std.specs.Prelude.{map}
use Rattle.std.specs.Global.{Vec}
use Rattle.pst_ast.specs.declared.expression.PathNode.{items_hidden-the_row-NextPart-0}
use Rattle.pst_ast.specs.declared.expression.PathNode.TheVariants as the_path
use Rattle.pst_ast.specs.declared.expression.PartNode.{PartNode}
use Rattle.pst_ast.specs.declared.expression.NextPart.{NextPart}
use Rattle.pst_ast.specs.declared.expression.ExprNode.TheBlock.{hidden-the_row-NextPart-0}
use Rattle.pst_ast.specs.ExpressionView.{view_path, view_part, view_next_part}
use Rattle.pst_model.specs.ConstraintTree.{SlotTree}
use Rattle.pst_ast.specs.declared.referent.PathPart.{PathPart}
use Rattle.pst_ast.specs.Uses.{part_of}
use Rattle.pst_terms.specs.Sources.{Sources}
use Rattle.pst_terms.specs.Terms.{Reading}
use Rattle.pst_terms.specs.Readings.{Setting, reading_of, dotted_reading}
use Rattle.pst_walk_parts.specs.Shown.{dotted_part}
use Rattle.pst_walk_parts.proofs.ExpressionRows.{names_row}

abbrev as_part : NextPart → PathPart
as_part next = dotted_part (view_next_part next)

pub dotted_is : (s : Sources) (setting : Setting) (first : PartNode) (v : Vec NextPart) → reading_of s setting (view_path (the_path.Dotted first v)) ≡ dotted_reading s setting (part_of (view_part first)) (map (λ (n : NextPart). dotted_part (view_next_part n)) v.items)
unfolding reading_of
dotted_is s setting first v =
    ap (λ (ps : List PathPart). dotted_reading s setting (part_of (view_part first)) ps) (names_row (hidden-the_row-NextPart-0 v) ∙ ap (map as_part) (items_hidden-the_row-NextPart-0 v))
