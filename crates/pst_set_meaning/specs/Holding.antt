-- When the constraints of the sources hold, by the values of their expressions: no constraint is rewritten here.
use Rattle.std.specs.Prelude.{◌≡◌, ℕ, ◌<◌, ℤ, pos, List, [], ◌∷◌, map, Option, Some, None}
use Rattle.pst_ast.specs.ExpressionTree.{ExprTree}
use Rattle.pst_ast.specs.ConstraintTree.{ConstraintTree, ConstraintOne, ConstraintBlock, ConstraintItemTree, ConstraintItemEmpty, ConstraintItemExpr, ConstraintItemImplies, ConstraintItemIf, ConstraintItemIfElse, ConstraintItemUnique, ConstraintItemForeach, ConstraintItemRow, NoConstraintItemRow, MoreConstraintItemRow, ConstraintContentNamed, ConstraintContentSet, ConstraintDeclarationTree, MakeConstraintDeclaration}
use Rattle.pst_model.specs.ConstraintTree.{SlotTree}
use Rattle.pst_type_rules.specs.Values.{value_under}
use Rattle.pst_ast.specs.Uses.{next_expr}
use Rattle.pst_terms.specs.Sources.{Sources}
use Rattle.pst_terms.specs.Readings.{Setting, AtNumber, reading_of}
use Rattle.pst_terms.specs.Values.{path_value}
use Rattle.pst_elab_rules.specs.Constraints.{with_turn, turns_of, set_terms}

-- ---- values

-- the value of an expression where it stands, where slots have given values
abbrev pub value_there : (SlotTree → Option ℤ) → Sources → Setting → ExprTree → Option ℤ
value_there f s setting expr = value_under (path_value f (reading_of s setting)) expr

-- a value that is there, and isn't 0
abbrev pub IsTrueValue : Option ℤ → Type 0
IsTrueValue None = ⊥
IsTrueValue (Some v) = v ≡ pos 0 → ⊥

-- two values that are there, and differ
abbrev pub Differ : Option ℤ → Option ℤ → Type 0
Differ (Some v) (Some w) = v ≡ w → ⊥
Differ _ _ = ⊥

abbrev pub DiffersFromAll : Option ℤ → List (Option ℤ) → Type 0
DiffersFromAll v [] = Unit {0}
DiffersFromAll v (w ∷ ws) = Differ v w × DiffersFromAll v ws

-- any two of some values are there, and differ
abbrev pub AreApart : List (Option ℤ) → Type 0
AreApart [] = Unit {0}
AreApart (v ∷ vs) = DiffersFromAll v vs × AreApart vs

-- ---- conditions

-- a set holds where a condition isn't 0; where the condition has no value the set must be empty
abbrev pub HoldsWhere : Option ℤ → Type 0 → Type 0 → Type 0
HoldsWhere None is_empty holds = is_empty
HoldsWhere (Some v) is_empty holds = (v ≡ pos 0 → ⊥) → holds

-- a set holds where a condition is 0; where the condition has no value the set must be empty
abbrev pub HoldsElse : Option ℤ → Type 0 → Type 0 → Type 0
HoldsElse None is_empty holds = is_empty
HoldsElse (Some v) is_empty holds = v ≡ pos 0 → holds

-- ---- sets

-- a set without constraints: of empty statements, of a `unique` with one item, or of conditions and repetitions round such
abbrev pub IsEmpty : Sources → Setting → ConstraintTree → Type 0
IsEmpty s setting set = set_terms s setting set ≡ []

abbrev mutual
  pub SetHolds : (SlotTree → Option ℤ) → Sources → Setting → ConstraintTree → Type 0
  SetHolds f s setting (ConstraintOne item) = ItemHolds f s setting item
  SetHolds f s setting (ConstraintBlock left items right) = RowHolds f s setting items

  pub ItemHolds : (SlotTree → Option ℤ) → Sources → Setting → ConstraintItemTree → Type 0
  ItemHolds f s setting (ConstraintItemEmpty place) = Unit {0}
  ItemHolds f s setting (ConstraintItemExpr expr semicolon) = IsTrueValue (value_there f s setting expr)
  ItemHolds f s setting (ConstraintItemImplies condition arrow set) = HoldsWhere (value_there f s setting condition) (IsEmpty s setting set) (SetHolds f s setting set)
  ItemHolds f s setting (ConstraintItemIf word left condition right then_part) = HoldsWhere (value_there f s setting condition) (IsEmpty s setting then_part) (SetHolds f s setting then_part)
  ItemHolds f s setting (ConstraintItemIfElse word left condition right then_part else_place otherwise) =
      HoldsWhere (value_there f s setting condition) (IsEmpty s setting then_part) (SetHolds f s setting then_part)
      × HoldsElse (value_there f s setting condition) (IsEmpty s setting otherwise) (SetHolds f s setting otherwise)
  ItemHolds f s setting (ConstraintItemUnique word left first rest right semicolon) = AreApart (value_there f s setting first ∷ map (λ n. value_there f s setting (next_expr n)) rest)
  -- the set holds with each number of an element as its index
  ItemHolds f s setting (ConstraintItemForeach word left first rest opening index close right set) =
      (i : ℕ) → i < turns_of s setting first rest → SetHolds f s (with_turn setting index (AtNumber i)) set

  pub RowHolds : (SlotTree → Option ℤ) → Sources → Setting → ConstraintItemRow → Type 0
  RowHolds f s setting NoConstraintItemRow = Unit {0}
  RowHolds f s setting (MoreConstraintItemRow head tail) = ItemHolds f s setting head × RowHolds f s setting tail

abbrev pub AllItemsHold : (SlotTree → Option ℤ) → Sources → Setting → List ConstraintItemTree → Type 0
AllItemsHold f s setting [] = Unit {0}
AllItemsHold f s setting (item ∷ more) = ItemHolds f s setting item × AllItemsHold f s setting more

-- a declared constraint, with a name or without one
abbrev pub DeclarationHolds : (SlotTree → Option ℤ) → Sources → Setting → ConstraintDeclarationTree → Type 0
DeclarationHolds f s setting (MakeConstraintDeclaration word (ConstraintContentNamed name left items right)) = AllItemsHold f s setting items
DeclarationHolds f s setting (MakeConstraintDeclaration word (ConstraintContentSet set)) = SetHolds f s setting set
