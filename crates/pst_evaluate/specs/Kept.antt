-- The values of the items of sources, as they are kept, and those of constants by them.
use Rattle.std.specs.Prelude.{ℕ, ℤ, List, Option, None, if◌then◌else◌}
use Rattle.pst_base.specs.declared.position.Place.{Place}
use Rattle.pst_ast.specs.ExpressionTree.{ExprTree}
use Rattle.pst_ast.specs.declared.scope_declaration.Declaration.{Declaration}
use Rattle.pst_ast.specs.declared.environment.Environment.{Environment}
use Rattle.pst_ast.specs.Uses.{expr_uses}
use Rattle.pst_type_rules.specs.Constants.{value_by}
use Rattle.pst_evaluate.specs.Known.{known_by}
use Rattle.pst_named_items.specs.Named.{are_items}

-- the places of the items' names, and the value of each that has one
pub record Kept : Type 0 where
  pub places : List Place
  pub values : List (Option ℤ)

-- the value of the item whose name stands at a place
abbrev pub known_in : Kept → Place → Option ℤ
known_in k place = known_by k.places k.values place

-- the value of an expression that names items alone, where items have these values
abbrev pub constant_by : List Declaration → List (List ℕ) → (Place → Option ℤ) → Environment → ExprTree → Option ℤ
constant_by ds names known at expr = if are_items ds names (expr_uses at expr) then value_by ds names known at expr else None
