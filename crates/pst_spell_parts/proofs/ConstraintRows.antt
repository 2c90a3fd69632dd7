-- The parts of a row in a tree are spelled as those of its list: constraint.
use Rattle.std.proofs.Common.{◌≡◌, ◌++◌, ◌∷◌, [], List, refl, ap, ◌∙◌}
use Rattle.std.specs.Prelude.{map}
use Rattle.std.specs.List.{flat_map}
use Rattle.std.specs.Global.{Vec}
use Rattle.pst_token.specs.declared.token.Token.{Token}
use Rattle.pst_ast.specs.declared.constraint.ConstraintNode.{Row_of-ConstraintItem, end_of-ConstraintItem, more_of-ConstraintItem, items-the_row-ConstraintItem, items_hidden-the_row-ConstraintItem-0}
use Rattle.pst_ast.specs.declared.constraint.ConstraintItem.TheBlock.{hidden-the_row-ConstraintItem-0}
use Rattle.pst_ast.specs.declared.constraint.ConstraintItem.{ConstraintItem}
use Rattle.pst_ast.specs.ConstraintView.{view_constraint_item, view_constraint_item_row}
use Rattle.pst_ast.specs.ConstraintSpelling.{spell_constraint_item, spell_constraint_item_row}
use Rattle.pst_base.specs.declared.position.Place.{Place}
use Rattle.pst_token.specs.declared.kind.Kind.TheVariants as kind
use Rattle.pst_ast.specs.declared.constraint.ConstraintNode.TheVariants as the_constraint
use Rattle.pst_ast.specs.Marks.{mark}
use Rattle.pst_ast.specs.ConstraintView.{view_constraint}
use Rattle.pst_ast.specs.ConstraintSpelling.{spell_constraint}

constraint_item_row : {n : _} (k : Row_of-ConstraintItem n) → spell_constraint_item_row (view_constraint_item_row k) ≡ flat_map spell_constraint_item (map view_constraint_item (items-the_row-ConstraintItem n k))
constraint_item_row end_of-ConstraintItem = refl
constraint_item_row (more_of-ConstraintItem head tail) = ap (λ (ts : List Token). spell_constraint_item (view_constraint_item (head)) ++ ts) (constraint_item_row tail)

pub constraint_item_items : (v : Vec ConstraintItem) → spell_constraint_item_row (view_constraint_item_row (hidden-the_row-ConstraintItem-0 v)) ≡ flat_map spell_constraint_item (map view_constraint_item v.items)
constraint_item_items v = constraint_item_row (hidden-the_row-ConstraintItem-0 v) ∙ ap (λ (xs : List ConstraintItem). flat_map spell_constraint_item (map view_constraint_item xs)) (items_hidden-the_row-ConstraintItem-0 v)

pub block_spells : (left : Place) (v : Vec ConstraintItem) (right : Place) → spell_constraint (view_constraint (the_constraint.Block left v right)) ≡ mark kind.LeftBrace left ∷ (flat_map spell_constraint_item (map view_constraint_item v.items) ++ mark kind.RightBrace right ∷ [])
block_spells left v right = ap (λ (ts : List Token). mark kind.LeftBrace left ∷ (ts ++ mark kind.RightBrace right ∷ [])) (constraint_item_items v)
