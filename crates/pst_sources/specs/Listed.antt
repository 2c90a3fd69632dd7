-- Enum items as they are gone through.
use Rattle.std.specs.Prelude.{ℤ, List, [], ◌∷◌, Option}
use Rattle.std.specs.Option.{option_map, option_map_or}
use Rattle.pst_base.specs.declared.position.Place.{Place}
use Rattle.pst_ast.specs.ExpressionTree.{ExprTree}
use Rattle.pst_ast.specs.DeclarationTree.{EnumItemTree, MakeEnumItem}
use Rattle.pst_type_rules.specs.Enums.{expr_in}
use Rattle.pst_terms.specs.Sources.{Sources, value_of, next_value}

abbrev pub item_expr : EnumItemTree → Option ExprTree
item_expr (MakeEnumItem name value) = option_map expr_in value

abbrev pub item_place : EnumItemTree → Place
item_place (MakeEnumItem name value) = name.place

-- the value of an item's expression, or the next value
abbrev pub value_with : Sources → Option ℤ → Option ExprTree → Option ℤ
value_with s next expr = option_map_or (value_of s) expr next

-- the values of items, of which the first has the next value where it has no expression
abbrev pub values_from : Sources → Option ℤ → List EnumItemTree → List (Place × Option ℤ)
values_from s next [] = []
values_from s next (i ∷ more) = (item_place i, value_with s next (item_expr i)) ∷ values_from s (next_value (value_with s next (item_expr i))) more
