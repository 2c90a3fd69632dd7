-- The constraints of a block as a list.
use Rattle.std.proofs.Common.{◌≡◌, ℕ, ◌+◌, ◌<◌, List, [], ◌∷◌, ◌++◌, refl, sym, ap, ◌∙◌, map, length, append_assoc}
use Rattle.std.specs.Prelude.{drop, get_or}
use Rattle.std.specs.List.{flat_map}
use Rattle.std.proofs.lemmas.List.{map-append, drop_more}
use Rattle.std.specs.Global.{Vec}
use Rattle.pst_base.specs.declared.position.Place.{Place}
use Rattle.pst_ast.specs.declared.constraint.ConstraintNode.{Row_of-ConstraintItem, end_of-ConstraintItem, more_of-ConstraintItem, items-the_row-ConstraintItem, items_hidden-the_row-ConstraintItem-0}
use Rattle.pst_ast.specs.declared.constraint.ConstraintNode.TheVariants as the_constraint
use Rattle.pst_ast.specs.declared.constraint.ConstraintItem.TheBlock.{hidden-the_row-ConstraintItem-0}
use Rattle.pst_ast.specs.declared.constraint.ConstraintItem.{ConstraintItem}
use Rattle.pst_ast.specs.ConstraintTree.{ConstraintItemTree}
use Rattle.pst_ast.specs.ConstraintView.{view_constraint, view_constraint_item, view_constraint_item_row}
use Rattle.pst_model.specs.ConstraintTree.{ConstraintTree, SlotTree}
use Rattle.pst_terms.specs.Sources.{Sources}
use Rattle.pst_terms.specs.Terms.{Term}
use Rattle.pst_terms.specs.Readings.{Setting}
use Rattle.pst_elab_rules.specs.Constraints.{set_terms, item_terms, item_row_terms}

module _ (s : Sources) (setting : Setting) where
  item_row : {n : _} (k : Row_of-ConstraintItem n) → item_row_terms s setting (view_constraint_item_row k) ≡ flat_map (item_terms s setting) (map view_constraint_item (items-the_row-ConstraintItem n k))
  item_row end_of-ConstraintItem = refl
  item_row (more_of-ConstraintItem head tail) = ap (λ (ts : List (Term SlotTree)). item_terms s setting (view_constraint_item head) ++ ts) (item_row tail)

  pub block_is : (left : Place) (v : Vec ConstraintItem) (right : Place) → set_terms s setting (view_constraint (the_constraint.Block left v right)) ≡ flat_map (item_terms s setting) (map view_constraint_item v.items)
  block_is left v right = item_row (hidden-the_row-ConstraintItem-0 v) ∙ ap (λ (xs : List ConstraintItem). flat_map (item_terms s setting) (map view_constraint_item xs)) (items_hidden-the_row-ConstraintItem-0 v)

-- one after another
pub item_more : (made : Term SlotTree → ConstraintTree) (f : ConstraintItemTree → List (Term SlotTree)) (old new total : List ConstraintTree) (items : List ConstraintItem) (i : ℕ) (item : ConstraintItem) → i < length items
    → item ≡ get_or items i item → new ≡ old ++ map made (f (view_constraint_item item))
    → old ++ map made (flat_map f (map view_constraint_item (drop i items))) ≡ total → new ++ map made (flat_map f (map view_constraint_item (drop (i + 1) items))) ≡ total
item_more made f old new total items i item within at is e =
    let rest = flat_map f (map view_constraint_item (drop (i + 1) items)) in
    ap (λ (xs : List ConstraintTree). xs ++ map made rest) is
    ∙ append_assoc old (map made (f (view_constraint_item item))) (map made rest)
    ∙ ap (λ (xs : List ConstraintTree). old ++ xs) (sym (map-append made (f (view_constraint_item item)) rest))
    ∙ ap (λ (x : ConstraintItem). old ++ map made (f (view_constraint_item x) ++ rest)) at
    ∙ ap (λ (xs : List ConstraintItem). old ++ map made (flat_map f (map view_constraint_item xs))) (sym (drop_more items i item within))
    ∙ e
