-- The sources with the values of their constants.
use Rattle.std.specs.Prelude.{ℕ, ℤ, pos, unsigned_abs, List, [], ◌∷◌, Option, Some}
use Rattle.std.specs.List.{find, flat_map}
use Rattle.std.specs.Option.{option_map, option_map_or, option_and_then}
use Rattle.pst_base.specs.declared.position.Place.{Place}
use Rattle.pst_ast.specs.ExpressionTree.{ExprTree}
use Rattle.pst_ast.specs.DeclarationTree.{UnitTree}
use Rattle.pst_num.specs.Arithmetic.{sum_of}
use Rattle.pst_ast.specs.declared.scope_declaration.Declaration.{Declaration}
use Rattle.pst_ast.specs.Declarations.{declarations}
use Rattle.pst_ast.specs.Sorts.{same_place}
use Rattle.pst_type_rules.specs.Enums.{DeclaredItem, enums}
use Rattle.pst_type_rules.specs.declared.typed.ConstantValue.{ConstantValue}
use Rattle.pst_type_rules.specs.Places.{expr_place}

-- the trees of the sources, the texts of their names, and the values of their constant expressions
pub record Sources : Type 0 where
  pub units : List UnitTree
  pub names : List (List ℕ)
  pub constants : List ConstantValue

abbrev pub declared_in : Sources → List Declaration
declared_in s = declarations s.units

-- the value of a constant expression, which its first token tells
abbrev pub value_of : Sources → ExprTree → Option ℤ
value_of s expr = option_map (λ c. c.value) (find (λ c. same_place c.at (expr_place expr)) s.constants)

-- the same as a number that isn't negative
abbrev pub amount_of : Sources → ExprTree → ℕ
amount_of s expr = option_map_or unsigned_abs (value_of s expr) 0

-- ---- enum items: the value of an item's expression, or one more than the value before it; the first is 0

abbrev pub next_value : Option ℤ → Option ℤ
next_value v = option_and_then (λ n. sum_of n (pos 1)) v

abbrev pub item_values : Sources → Option ℤ → List DeclaredItem → List (Place × Option ℤ)
item_values s next [] = []
item_values s next (i ∷ more) = let v = option_map_or (value_of s) i.expr next in (i.name.place, v) ∷ item_values s (next_value v) more

abbrev pub all_item_values : Sources → List (Place × Option ℤ)
all_item_values s = flat_map (λ e. item_values s (Some (pos 0)) e.items) (enums s.units)

-- the value of the item whose name stands at a place
unfoldable pub item_value : Sources → Place → Option ℤ
item_value s place = option_and_then (λ (x : Place × Option ℤ). x.1) (find (λ (x : Place × Option ℤ). same_place x.0 place) (all_item_values s))
