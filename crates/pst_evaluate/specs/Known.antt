-- The values of items that are known, and of paths.
use Rattle.std.specs.Prelude.{ℕ, ℤ, pos, List, [], ◌∷◌, Option, Some, None, slice_index_or}
use Rattle.std.specs.Option.{option_and_then}
use Rattle.pst_base.specs.declared.position.Place.{Place}
use Rattle.pst_ast.specs.declared.leaf.Name.{Name}
use Rattle.pst_ast.specs.ExpressionTree.{ExprTree, PathTree, RangeTree}
use Rattle.pst_num.specs.Arithmetic.{sum_of}
use Rattle.pst_expr.specs.declared.tree.BinaryOp.TheVariants.{Or}
use Rattle.pst_expr.specs.Value.{binary_value}
use Rattle.pst_ast.specs.declared.scope_declaration.Declaration.{Declaration}
use Rattle.pst_ast.specs.declared.environment.Environment.{Environment}
use Rattle.pst_ast.specs.declared.referent.Owner.TheVariants.{Nobody}
use Rattle.pst_ast.specs.Uses.{environment}
use Rattle.pst_type_rules.specs.Enums.{DeclaredItem}
use Rattle.pst_type_rules.specs.Constants.{item_of_path, value_by}
use Rattle.pst_type_rules.specs.Values.{in_one}
use Rattle.pst_places.specs.Numbers.{number_in}
use Rattle.pst_evaluate.specs.declared.knowledge.Knowledge.{Knowledge}

-- the value of the item whose name stands at a place, where the items' names stand at these places and have these values
abbrev pub known_by : List Place → List (Option ℤ) → Place → Option ℤ
known_by places values place = option_and_then (λ n. slice_index_or values n None) (number_in places place)

abbrev pub known_to : Knowledge → Place → Option ℤ
known_to k place = known_by k.places.now k.values.now place

-- the value of the item that a path names
abbrev pub path_known : Knowledge → Environment → PathTree → Option ℤ
path_known k at path = option_and_then (λ d. known_to k d.name.place) (item_of_path k.index.now k.names.now at path)

-- whether a value is in one of the ranges before, or in one of these
abbrev pub or_in_each : (PathTree → Option ℤ) → Option ℤ → Option ℤ → List RangeTree → Option ℤ
or_in_each path x before [] = before
or_in_each path x before (r ∷ more) = or_in_each path x (binary_value Or before (in_one path x r)) more

-- the value of an item by those of others
abbrev pub item_value_by : List Declaration → List (List ℕ) → (Place → Option ℤ) → Option Place → Option Name → Option ExprTree → Option ℤ
item_value_by ds names known component before (Some expr) = value_by ds names known (environment component Nobody) expr
item_value_by ds names known component None None = Some (pos 0)
item_value_by ds names known component (Some before) None = option_and_then (λ v. sum_of v (pos 1)) (known before.place)

abbrev pub item_value : List Declaration → List (List ℕ) → (Place → Option ℤ) → DeclaredItem → Option ℤ
item_value ds names known i = item_value_by ds names known i.component i.before i.expr
