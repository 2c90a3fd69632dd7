-- What counts towards the limits at each token of the trees of constraints; depth derivations that count are open round the tree.
use Rattle.std.specs.Prelude.{ℕ, suc, List, [], ◌∷◌, ◌++◌}
use Rattle.std.specs.List.{flat_map}
use Rattle.pst_ast.specs.ConstraintTree.{ConstraintTree, ConstraintOne, ConstraintBlock, ConstraintItemTree, ConstraintItemEmpty, ConstraintItemExpr, ConstraintItemImplies, ConstraintItemIf, ConstraintItemIfElse, ConstraintItemUnique, ConstraintItemForeach, ConstraintDeclarationTree, MakeConstraintDeclaration, ConstraintContentTree, ConstraintContentNamed, ConstraintContentSet, ConstraintItemRow, NoConstraintItemRow, MoreConstraintItemRow}
use Rattle.pst_ast.specs.Limits.{Count, counted}
use Rattle.pst_ast.specs.ExpressionLimits.{counts_expr}
use Rattle.pst_ast.specs.SharedLimits.{counts_dot_name, counts_next_expr}

abbrev mutual
  -- set = citem | "{" { citem } "}"
  pub counts_constraint : ℕ → ConstraintTree → List Count
  counts_constraint depth (ConstraintOne box<_constraint_item>) = counts_constraint_item depth box<_constraint_item>
  counts_constraint depth (ConstraintBlock left_brace_place items right_brace_place) = counted depth 0 ∷ (counts_constraint_item_row depth items ++ counted depth 0 ∷ [])

  -- citem: one constraint.
  pub counts_constraint_item : ℕ → ConstraintItemTree → List Count
  counts_constraint_item depth (ConstraintItemEmpty place) = counted (suc depth) 0 ∷ []
  counts_constraint_item depth (ConstraintItemExpr expr semicolon_place) = counts_expr (suc depth) 0 expr ++ counted (suc depth) 0 ∷ []
  counts_constraint_item depth (ConstraintItemImplies condition arrow_place set) = counts_expr (suc depth) 0 condition ++ counted (suc depth) 0 ∷ counts_constraint (suc depth) set
  counts_constraint_item depth (ConstraintItemIf if_place left_parenthesis_place condition right_parenthesis_place then_part) = counted (suc depth) 0 ∷ counted (suc depth) 0 ∷ (counts_expr (suc depth) 0 condition ++ counted (suc depth) 0 ∷ counts_constraint (suc depth) then_part)
  counts_constraint_item depth (ConstraintItemIfElse if_place left_parenthesis_place condition right_parenthesis_place then_part else_place otherwise) = counted (suc depth) 0 ∷ counted (suc depth) 0 ∷ (counts_expr (suc depth) 0 condition ++ counted (suc depth) 0 ∷ (counts_constraint (suc depth) then_part ++ counted (suc depth) 0 ∷ counts_constraint (suc depth) otherwise))
  counts_constraint_item depth (ConstraintItemUnique unique_place left_brace_place first rest right_brace_place semicolon_place) = counted (suc depth) 0 ∷ counted (suc depth) 0 ∷ (counts_expr (suc depth) 0 first ++ (flat_map (counts_next_expr (suc depth)) rest ++ counted (suc depth) 0 ∷ counted (suc depth) 0 ∷ []))
  counts_constraint_item depth (ConstraintItemForeach foreach_place left_parenthesis_place first rest left_bracket_place index right_bracket_place right_parenthesis_place set) = counted (suc depth) 0 ∷ counted (suc depth) 0 ∷ counted (suc depth) 0 ∷ (flat_map (counts_dot_name (suc depth)) rest ++ counted (suc depth) 0 ∷ counted (suc depth) 0 ∷ counted (suc depth) 0 ∷ counted (suc depth) 0 ∷ counts_constraint (suc depth) set)

  pub counts_constraint_item_row : ℕ → ConstraintItemRow → List Count
  counts_constraint_item_row depth NoConstraintItemRow = []
  counts_constraint_item_row depth (MoreConstraintItemRow head tail) = counts_constraint_item depth head ++ counts_constraint_item_row depth tail

-- What stands behind the word constraint.
abbrev pub counts_constraint_content : ℕ → ConstraintContentTree → List Count
counts_constraint_content depth (ConstraintContentNamed name left_brace_place items right_brace_place) = counted depth 0 ∷ counted depth 0 ∷ (flat_map (counts_constraint_item depth) items ++ counted depth 0 ∷ [])
counts_constraint_content depth (ConstraintContentSet constraint) = counts_constraint depth constraint

-- constraint = "constraint" ( NAME "{" { citem } "}" | set )
abbrev pub counts_constraint_declaration : ℕ → ConstraintDeclarationTree → List Count
counts_constraint_declaration depth (MakeConstraintDeclaration constraint_place content) = counted depth 0 ∷ counts_constraint_content depth content
