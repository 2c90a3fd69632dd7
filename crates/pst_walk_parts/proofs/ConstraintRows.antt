-- The uses in the rows of constraints are those in its lists.
use Rattle.std.proofs.Common.{◌≡◌, ◌++◌, List, refl, ap, ◌∙◌}
use Rattle.std.specs.Prelude.{map}
use Rattle.std.specs.List.{flat_map}
use Rattle.std.specs.Global.{Vec}
use Rattle.pst_base.specs.declared.position.Place.{Place}
use Rattle.pst_ast.specs.declared.constraint.ConstraintNode.{Row_of-ConstraintItem, end_of-ConstraintItem, more_of-ConstraintItem, items-the_row-ConstraintItem, items_hidden-the_row-ConstraintItem-0}
use Rattle.pst_ast.specs.declared.constraint.ConstraintNode.TheVariants as the_constraint
use Rattle.pst_ast.specs.declared.constraint.ConstraintItem.TheBlock.{hidden-the_row-ConstraintItem-0}
use Rattle.pst_ast.specs.declared.constraint.ConstraintItem.{ConstraintItem}
use Rattle.pst_ast.specs.ConstraintView.{view_constraint, view_constraint_item, view_constraint_item_row}
use Rattle.pst_ast.specs.declared.environment.Environment.{Environment}
use Rattle.pst_ast.specs.Uses.{Use, item_row_uses, item_uses, set_uses}

item_row : (at : Environment) {n : _} (k : Row_of-ConstraintItem n) → item_row_uses at (view_constraint_item_row k) ≡ flat_map (item_uses at) (map view_constraint_item (items-the_row-ConstraintItem n k))
item_row at end_of-ConstraintItem = refl
item_row at (more_of-ConstraintItem head tail) = ap (λ (us : List Use). item_uses at (view_constraint_item head) ++ us) (item_row at tail)

pub block_uses_are : (at : Environment) (left : Place) (v : Vec ConstraintItem) (right : Place) → set_uses at (view_constraint (the_constraint.Block left v right)) ≡ flat_map (item_uses at) (map view_constraint_item v.items)
block_uses_are at left v right = item_row at (hidden-the_row-ConstraintItem-0 v) ∙ ap (λ (xs : List ConstraintItem). flat_map (item_uses at) (map view_constraint_item xs)) (items_hidden-the_row-ConstraintItem-0 v)
