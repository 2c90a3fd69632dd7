-- The tokens of the trees of constraint.
use Rattle.std.specs.Prelude.{List, [], ◌∷◌, ◌++◌}
use Rattle.std.specs.List.{flat_map}
use Rattle.pst_token.specs.declared.token.Token.{Token}
use Rattle.pst_token.specs.declared.kind.Kind.TheVariants as kind
use Rattle.pst_ast.specs.Marks.{mark, name_token}
use Rattle.pst_ast.specs.ExpressionSpelling.{spell_expr}
use Rattle.pst_ast.specs.SharedSpelling.{spell_dot_name, spell_next_expr}
use Rattle.pst_ast.specs.ConstraintTree.{ConstraintTree, ConstraintOne, ConstraintBlock, ConstraintItemTree, ConstraintItemEmpty, ConstraintItemExpr, ConstraintItemImplies, ConstraintItemIf, ConstraintItemIfElse, ConstraintItemUnique, ConstraintItemForeach, ConstraintDeclarationTree, MakeConstraintDeclaration, ConstraintContentTree, ConstraintContentNamed, ConstraintContentSet, ConstraintItemRow, NoConstraintItemRow, MoreConstraintItemRow}

abbrev mutual
  -- set = citem | "{" { citem } "}"
  pub spell_constraint : ConstraintTree → List Token
  spell_constraint (ConstraintOne box<_constraint_item>) = spell_constraint_item box<_constraint_item>
  spell_constraint (ConstraintBlock left_brace_place items right_brace_place) = mark kind.LeftBrace left_brace_place ∷ (spell_constraint_item_row items ++ mark kind.RightBrace right_brace_place ∷ [])

  -- citem: one constraint.
  pub spell_constraint_item : ConstraintItemTree → List Token
  spell_constraint_item (ConstraintItemEmpty place) = mark kind.Semicolon place ∷ []
  spell_constraint_item (ConstraintItemExpr expr semicolon_place) = spell_expr expr ++ mark kind.Semicolon semicolon_place ∷ []
  spell_constraint_item (ConstraintItemImplies condition arrow_place set) = spell_expr condition ++ mark kind.Arrow arrow_place ∷ spell_constraint set
  spell_constraint_item (ConstraintItemIf if_place left_parenthesis_place condition right_parenthesis_place then_part) = mark kind.If if_place ∷ mark kind.LeftParenthesis left_parenthesis_place ∷ (spell_expr condition ++ mark kind.RightParenthesis right_parenthesis_place ∷ spell_constraint then_part)
  spell_constraint_item (ConstraintItemIfElse if_place left_parenthesis_place condition right_parenthesis_place then_part else_place otherwise) = mark kind.If if_place ∷ mark kind.LeftParenthesis left_parenthesis_place ∷ (spell_expr condition ++ mark kind.RightParenthesis right_parenthesis_place ∷ (spell_constraint then_part ++ mark kind.Else else_place ∷ spell_constraint otherwise))
  spell_constraint_item (ConstraintItemUnique unique_place left_brace_place first rest right_brace_place semicolon_place) = mark kind.Unique unique_place ∷ mark kind.LeftBrace left_brace_place ∷ (spell_expr first ++ (flat_map spell_next_expr rest ++ mark kind.RightBrace right_brace_place ∷ mark kind.Semicolon semicolon_place ∷ []))
  spell_constraint_item (ConstraintItemForeach foreach_place left_parenthesis_place first rest left_bracket_place index right_bracket_place right_parenthesis_place set) = mark kind.Foreach foreach_place ∷ mark kind.LeftParenthesis left_parenthesis_place ∷ name_token first ∷ (flat_map spell_dot_name rest ++ mark kind.LeftBracket left_bracket_place ∷ name_token index ∷ mark kind.RightBracket right_bracket_place ∷ mark kind.RightParenthesis right_parenthesis_place ∷ spell_constraint set)

  pub spell_constraint_item_row : ConstraintItemRow → List Token
  spell_constraint_item_row NoConstraintItemRow = []
  spell_constraint_item_row (MoreConstraintItemRow head tail) = spell_constraint_item head ++ spell_constraint_item_row tail

-- What stands behind the word constraint.
abbrev pub spell_constraint_content : ConstraintContentTree → List Token
spell_constraint_content (ConstraintContentNamed name left_brace_place items right_brace_place) = name_token name ∷ mark kind.LeftBrace left_brace_place ∷ (flat_map spell_constraint_item items ++ mark kind.RightBrace right_brace_place ∷ [])
spell_constraint_content (ConstraintContentSet constraint) = spell_constraint constraint

-- constraint = "constraint" ( NAME "{" { citem } "}" | set )
abbrev pub spell_constraint_declaration : ConstraintDeclarationTree → List Token
spell_constraint_declaration (MakeConstraintDeclaration constraint_place content) = mark kind.Constraint constraint_place ∷ spell_constraint_content content
