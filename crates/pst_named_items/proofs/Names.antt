-- The names of a path as a list.
use Rattle.std.proofs.Common.{◌≡◌, ℕ, List, ap, ◌∙◌}
use Rattle.std.specs.Prelude.{map}
use Rattle.std.specs.Global.{Vec}
use Rattle.pst_ast.specs.declared.expression.PathNode.{items_hidden-the_row-NextPart-0}
use Rattle.pst_ast.specs.declared.expression.PathNode.TheVariants as the_path
use Rattle.pst_ast.specs.declared.expression.PartNode.{PartNode}
use Rattle.pst_ast.specs.declared.expression.NextPart.{NextPart}
use Rattle.pst_ast.specs.declared.expression.ExprNode.TheBlock.{hidden-the_row-NextPart-0}
use Rattle.pst_ast.specs.ExpressionView.{view_path, view_part, view_next_part}
use Rattle.pst_ast.specs.declared.scope_declaration.Declaration.{Declaration}
use Rattle.pst_ast.specs.declared.environment.Environment.{Environment}
use Rattle.pst_ast.specs.declared.referent.PathPart.{PathPart}
use Rattle.pst_ast.specs.Uses.{part_of}
use Rattle.pst_type_rules.specs.Constants.{item_of_path, item_read}
use Rattle.pst_walk_parts.specs.Shown.{dotted_part}
use Rattle.pst_walk_parts.proofs.ExpressionRows.{names_row}

abbrev as_part : NextPart → PathPart
as_part next = dotted_part (view_next_part next)

pub dotted_names : (ds : List Declaration) (names : List (List ℕ)) (at : Environment) (first : PartNode) (v : Vec NextPart) → item_of_path ds names at (view_path (the_path.Dotted first v)) ≡ item_read ds names at (part_of (view_part first)) (map (λ (n : NextPart). dotted_part (view_next_part n)) v.items)
dotted_names ds names at first v =
    ap (λ (ps : List PathPart). item_read ds names at (part_of (view_part first)) ps) (names_row (hidden-the_row-NextPart-0 v) ∙ ap (map as_part) (items_hidden-the_row-NextPart-0 v))
