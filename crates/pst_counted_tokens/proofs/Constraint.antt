-- Each token of a tree counts once: the trees of constraint.
use Rattle.std.proofs.Common.{◌≡◌, ℕ, suc, length, ap, refl, ◌∷◌, ◌++◌}
use Rattle.pst_ast.specs.ConstraintTree.{ConstraintTree, ConstraintOne, ConstraintBlock, ConstraintItemTree, ConstraintItemEmpty, ConstraintItemExpr, ConstraintItemImplies, ConstraintItemIf, ConstraintItemIfElse, ConstraintItemUnique, ConstraintItemForeach, ConstraintDeclarationTree, MakeConstraintDeclaration, ConstraintContentTree, ConstraintContentNamed, ConstraintContentSet, ConstraintItemRow, NoConstraintItemRow, MoreConstraintItemRow}
use Rattle.pst_ast.specs.ConstraintLimits.{counts_constraint, counts_constraint_item, counts_constraint_item_row, counts_constraint_content, counts_constraint_declaration}
use Rattle.pst_ast.specs.ConstraintSpelling.{spell_constraint, spell_constraint_item, spell_constraint_item_row, spell_constraint_content, spell_constraint_declaration}
use Rattle.std.specs.List.{flat_map}
use Rattle.pst_ast.specs.Limits.{counted}
use Rattle.pst_ast.specs.Marks.{mark, name_token}
use Rattle.pst_token.specs.declared.kind.Kind.TheVariants as kind
use Rattle.pst_ast.specs.SharedLimits.{counts_dot_name}
use Rattle.pst_ast.specs.SharedSpelling.{spell_dot_name}
use Rattle.pst_counted_tokens.proofs.Shared.{each_dot_name, each_next_expr}
use Rattle.pst_counted_tokens.proofs.Expression.{each_expr}
use Rattle.pst_counted_tokens.proofs.Rows.{behind, each_of_list}

mutual
  pub each_constraint : (depth : ℕ) (t : ConstraintTree) → length (counts_constraint depth t) ≡ length (spell_constraint t)
  each_constraint depth (ConstraintOne box<_constraint_item>) = each_constraint_item depth box<_constraint_item>
  each_constraint depth (ConstraintBlock left_brace_place items right_brace_place) = ap suc (behind _ _ _ _ (each_constraint_item_row depth items) refl)

  pub each_constraint_item : (depth : ℕ) (t : ConstraintItemTree) → length (counts_constraint_item depth t) ≡ length (spell_constraint_item t)
  each_constraint_item depth (ConstraintItemEmpty place) = refl
  each_constraint_item depth (ConstraintItemExpr expr semicolon_place) = behind _ _ _ _ (each_expr (suc depth) 0 expr) refl
  each_constraint_item depth (ConstraintItemImplies condition arrow_place set) = behind _ _ _ _ (each_expr (suc depth) 0 condition) (ap suc (each_constraint (suc depth) set))
  each_constraint_item depth (ConstraintItemIf if_place left_parenthesis_place condition right_parenthesis_place then_part) = ap suc (ap suc (behind _ _ _ _ (each_expr (suc depth) 0 condition) (ap suc (each_constraint (suc depth) then_part))))
  each_constraint_item depth (ConstraintItemIfElse if_place left_parenthesis_place condition right_parenthesis_place then_part else_place otherwise) = ap suc (ap suc (behind _ _ _ _ (each_expr (suc depth) 0 condition) (ap suc (behind _ _ _ _ (each_constraint (suc depth) then_part) (ap suc (each_constraint (suc depth) otherwise))))))
  each_constraint_item depth (ConstraintItemUnique unique_place left_brace_place first rest right_brace_place semicolon_place) = ap suc (ap suc (behind _ _ _ _ (each_expr (suc depth) 0 first) (behind _ _ _ _ (each_of_list _ _ (λ x. each_next_expr (suc depth) x) rest) refl)))
  each_constraint_item depth (ConstraintItemForeach foreach_place left_parenthesis_place first rest left_bracket_place index right_bracket_place right_parenthesis_place set) = ap suc (ap suc (ap suc (behind (flat_map (counts_dot_name (suc depth)) rest) ((counted (suc depth) 0) ∷ ((counted (suc depth) 0) ∷ ((counted (suc depth) 0) ∷ ((counted (suc depth) 0) ∷ (counts_constraint (suc depth) set))))) (flat_map spell_dot_name rest) ((mark kind.LeftBracket left_bracket_place) ∷ ((name_token index) ∷ ((mark kind.RightBracket right_bracket_place) ∷ ((mark kind.RightParenthesis right_parenthesis_place) ∷ (spell_constraint set))))) (each_of_list (counts_dot_name (suc depth)) spell_dot_name (λ x. each_dot_name (suc depth) x) rest) (ap suc (ap suc (ap suc (ap suc (each_constraint (suc depth) set))))))))

  pub each_constraint_item_row : (depth : ℕ) (t : ConstraintItemRow) → length (counts_constraint_item_row depth t) ≡ length (spell_constraint_item_row t)
  each_constraint_item_row depth NoConstraintItemRow = refl
  each_constraint_item_row depth (MoreConstraintItemRow head tail) = behind _ _ _ _ (each_constraint_item depth head) (each_constraint_item_row depth tail)

pub each_constraint_content : (depth : ℕ) (t : ConstraintContentTree) → length (counts_constraint_content depth t) ≡ length (spell_constraint_content t)
each_constraint_content depth (ConstraintContentNamed name left_brace_place items right_brace_place) = ap suc (ap suc (behind _ _ _ _ (each_of_list _ _ (λ x. each_constraint_item depth x) items) refl))
each_constraint_content depth (ConstraintContentSet constraint) = each_constraint depth constraint

pub each_constraint_declaration : (depth : ℕ) (t : ConstraintDeclarationTree) → length (counts_constraint_declaration depth t) ≡ length (spell_constraint_declaration t)
each_constraint_declaration depth (MakeConstraintDeclaration constraint_place content) = ap suc (each_constraint_content depth content)
