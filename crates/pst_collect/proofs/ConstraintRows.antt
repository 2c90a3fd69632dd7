-- A row in a tree declares what its list declares: constraint.
use Rattle.std.proofs.Common.{◌≡◌, ◌++◌, List, refl, ap, ◌∙◌}
use Rattle.std.specs.Prelude.{map}
use Rattle.std.specs.List.{flat_map}
use Rattle.std.specs.Global.{Vec}
use Rattle.pst_base.specs.declared.position.Place.{Place}
use Rattle.pst_ast.specs.declared.constraint.ConstraintNode.{Row_of-ConstraintItem, end_of-ConstraintItem, more_of-ConstraintItem, items-the_row-ConstraintItem, items_hidden-the_row-ConstraintItem-0}
use Rattle.pst_ast.specs.declared.constraint.ConstraintNode.TheVariants as the_constraint
use Rattle.pst_ast.specs.declared.constraint.ConstraintItem.TheBlock.{hidden-the_row-ConstraintItem-0}
use Rattle.pst_ast.specs.declared.constraint.ConstraintItem.{ConstraintItem}
use Rattle.pst_ast.specs.ConstraintView.{view_constraint, view_constraint_item, view_constraint_item_row}
use Rattle.pst_ast.specs.declared.scope_declaration.Declaration.{Declaration}
use Rattle.pst_ast.specs.Declarations.{in_item, in_item_row, in_set}

constraint_item_row : (owner : Place) {n : _} (k : Row_of-ConstraintItem n) → in_item_row owner (view_constraint_item_row k) ≡ flat_map (in_item owner) (map view_constraint_item (items-the_row-ConstraintItem n k))
constraint_item_row owner end_of-ConstraintItem = refl
constraint_item_row owner (more_of-ConstraintItem head tail) = ap (λ (ds : List Declaration). in_item owner (view_constraint_item head) ++ ds) (constraint_item_row owner tail)

pub block_declares : (owner left : Place) (v : Vec ConstraintItem) (right : Place) → in_set owner (view_constraint (the_constraint.Block left v right)) ≡ flat_map (in_item owner) (map view_constraint_item v.items)
block_declares owner left v right = constraint_item_row owner (hidden-the_row-ConstraintItem-0 v) ∙ ap (λ (xs : List ConstraintItem). flat_map (in_item owner) (map view_constraint_item xs)) (items_hidden-the_row-ConstraintItem-0 v)
