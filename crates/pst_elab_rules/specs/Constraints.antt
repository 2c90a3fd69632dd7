-- What the constraints of the sources become: each is an expression, in the order of the text.
use Rattle.std.specs.Prelude.{ℕ, List, [], ◌∷◌, ◌++◌, map}
use Rattle.std.specs.List.{flat_map}
use Rattle.pst_ast.specs.declared.leaf.Name.{Name}
use Rattle.pst_ast.specs.declared.shared.DotName.{DotName}
use Rattle.pst_ast.specs.ConstraintTree.{ConstraintTree, ConstraintOne, ConstraintBlock, ConstraintItemTree, ConstraintItemEmpty, ConstraintItemExpr, ConstraintItemImplies, ConstraintItemIf, ConstraintItemIfElse, ConstraintItemUnique, ConstraintItemForeach, ConstraintItemRow, NoConstraintItemRow, MoreConstraintItemRow, ConstraintContentNamed, ConstraintContentSet, ConstraintDeclarationTree, MakeConstraintDeclaration}
use Rattle.pst_expr.specs.declared.tree.UnaryOp.TheVariants.{Not}
use Rattle.pst_expr.specs.declared.tree.BinaryOp.TheVariants.{NotEqual, Implies}
use Rattle.pst_model.specs.ConstraintTree.{SlotTree}
use Rattle.pst_ast.specs.Paths.{is_array, read_path}
use Rattle.pst_ast.specs.Uses.{with_inner, plain_part, next_expr}
use Rattle.pst_terms.specs.Sources.{Sources, declared_in}
use Rattle.pst_terms.specs.Fields.{counted}
use Rattle.pst_terms.specs.Terms.{Term, Prefix, Infix}
use Rattle.pst_terms.specs.Readings.{Setting, Turn, AtNumber, expr_term, elements_of}

-- within the scope of an index
abbrev pub with_turn : Setting → Name → Turn → Setting
with_turn setting name turn = record { at = with_inner setting.at name; turns = (name.place, turn) ∷ setting.turns; locals = setting.locals }

-- ---- the rewritings

-- p != q for each pair, by the first and then the second
abbrev pub pairs : List (Term SlotTree) → List (Term SlotTree)
pairs [] = []
pairs (p ∷ more) = map (Infix NotEqual p) more ++ pairs more

-- c -> k for each constraint k
abbrev pub implied : Term SlotTree → List (Term SlotTree) → List (Term SlotTree)
implied condition terms = map (Infix Implies condition) terms

-- the constraints for each number below n
abbrev pub for_each : (ℕ → List (Term SlotTree)) → ℕ → List (Term SlotTree)
for_each f n = flat_map f (counted 0 n)

-- how many elements the array of a `foreach` has
abbrev pub turns_of : Sources → Setting → Name → List DotName → ℕ
turns_of s setting first rest = elements_of s (read_path (declared_in s) s.names setting.at is_array (plain_part first) (map (λ d. plain_part d.name) rest))

-- ---- sets of constraints

abbrev mutual
  pub set_terms : Sources → Setting → ConstraintTree → List (Term SlotTree)
  set_terms s setting (ConstraintOne item) = item_terms s setting item
  set_terms s setting (ConstraintBlock left items right) = item_row_terms s setting items

  pub item_terms : Sources → Setting → ConstraintItemTree → List (Term SlotTree)
  item_terms s setting (ConstraintItemEmpty place) = []
  item_terms s setting (ConstraintItemExpr expr semicolon) = expr_term s setting expr ∷ []
  item_terms s setting (ConstraintItemImplies condition arrow set) = implied (expr_term s setting condition) (set_terms s setting set)
  item_terms s setting (ConstraintItemIf word left condition right then_part) = implied (expr_term s setting condition) (set_terms s setting then_part)
  item_terms s setting (ConstraintItemIfElse word left condition right then_part else_place otherwise) =
      implied (expr_term s setting condition) (set_terms s setting then_part) ++ implied (Prefix Not (expr_term s setting condition)) (set_terms s setting otherwise)
  item_terms s setting (ConstraintItemUnique word left first rest right semicolon) = pairs (expr_term s setting first ∷ map (λ n. expr_term s setting (next_expr n)) rest)
  item_terms s setting (ConstraintItemForeach word left first rest opening index close right set) =
      for_each (λ i. set_terms s (with_turn setting index (AtNumber i)) set) (turns_of s setting first rest)

  pub item_row_terms : Sources → Setting → ConstraintItemRow → List (Term SlotTree)
  item_row_terms s setting NoConstraintItemRow = []
  item_row_terms s setting (MoreConstraintItemRow head tail) = item_terms s setting head ++ item_row_terms s setting tail

-- a declared constraint, with a name or without one
abbrev pub declaration_terms : Sources → Setting → ConstraintDeclarationTree → List (Term SlotTree)
declaration_terms s setting (MakeConstraintDeclaration word (ConstraintContentNamed name left items right)) = flat_map (item_terms s setting) items
declaration_terms s setting (MakeConstraintDeclaration word (ConstraintContentSet set)) = set_terms s setting set
