-- No set of constraints has the token `End` in it.
use Rattle.std.proofs.Common.{List, [], ◌∷◌}
use Rattle.std.specs.List.{flat_map}
use Rattle.pst_ast.specs.declared.shared.DotName.{DotName}
use Rattle.pst_ast.specs.ExpressionSpelling.{spell_expr}
use Rattle.pst_ast.specs.SharedTree.{NextExprTree, MakeNextExpr}
use Rattle.pst_ast.specs.SharedSpelling.{spell_next_expr, spell_dot_name}
use Rattle.pst_ast.specs.ConstraintTree.{ConstraintTree, ConstraintOne, ConstraintBlock, ConstraintItemTree, ConstraintItemEmpty, ConstraintItemExpr, ConstraintItemImplies, ConstraintItemIf, ConstraintItemIfElse, ConstraintItemUnique, ConstraintItemForeach, ConstraintItemRow, NoConstraintItemRow, MoreConstraintItemRow}
use Rattle.pst_ast.specs.ConstraintSpelling.{spell_constraint, spell_constraint_item, spell_constraint_item_row}
use Rattle.pst_reading.proofs.Whole.{NoEnd, both_free}
use Rattle.pst_parse_operator.proofs.NoEnd.{expr_free}

pub next_exprs_free : (es : List NextExprTree) → NoEnd (flat_map spell_next_expr es)
next_exprs_free [] = tt
next_exprs_free (MakeNextExpr comma e ∷ es) = (λ f. cc, both_free (spell_expr e) _ (expr_free e) (next_exprs_free es))

pub dot_names_free : (ns : List DotName) → NoEnd (flat_map spell_dot_name ns)
dot_names_free [] = tt
dot_names_free (n ∷ ns) = (λ f. cc, (λ f. cc, dot_names_free ns))

mutual
  pub set_free : (s : ConstraintTree) → NoEnd (spell_constraint s)
  set_free (ConstraintOne item) = item_free item
  set_free (ConstraintBlock l items r) = (λ f. cc, both_free (spell_constraint_item_row items) _ (items_free items) (λ f. cc, tt))

  pub item_free : (item : ConstraintItemTree) → NoEnd (spell_constraint_item item)
  item_free (ConstraintItemEmpty p) = (λ f. cc, tt)
  item_free (ConstraintItemExpr e p) = both_free (spell_expr e) _ (expr_free e) (λ f. cc, tt)
  item_free (ConstraintItemImplies e p s) = both_free (spell_expr e) _ (expr_free e) (λ f. cc, set_free s)
  item_free (ConstraintItemIf i l e r t) = (λ f. cc, (λ f. cc, both_free (spell_expr e) _ (expr_free e) (λ f. cc, set_free t)))
  item_free (ConstraintItemIfElse i l e r t x o) = (λ f. cc, (λ f. cc, both_free (spell_expr e) _ (expr_free e) (λ f. cc, both_free (spell_constraint t) _ (set_free t) (λ f. cc, set_free o))))
  item_free (ConstraintItemUnique u l e es r s) = (λ f. cc, (λ f. cc, both_free (spell_expr e) _ (expr_free e) (both_free (flat_map spell_next_expr es) _ (next_exprs_free es) (λ f. cc, (λ f. cc, tt)))))
  item_free (ConstraintItemForeach f l n ns b i r c s) = (λ g. cc, (λ g. cc, (λ g. cc, both_free (flat_map spell_dot_name ns) _ (dot_names_free ns) (λ g. cc, (λ g. cc, (λ g. cc, (λ g. cc, set_free s)))))))

  items_free : (items : ConstraintItemRow) → NoEnd (spell_constraint_item_row items)
  items_free NoConstraintItemRow = tt
  items_free (MoreConstraintItemRow item items) = both_free (spell_constraint_item item) (spell_constraint_item_row items) (item_free item) (items_free items)
