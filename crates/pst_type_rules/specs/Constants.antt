-- Constant expressions: they name enum items alone, and have a value.
use Rattle.std.specs.Prelude.{◌≡◌, ℕ, ℤ, pos, List, Option, Some, None, IsSome}
use Rattle.std.specs.List.{Contains}
use Rattle.std.specs.Option.{option_and_then}
use Rattle.pst_base.specs.declared.position.Place.{Place}
use Rattle.pst_ast.specs.declared.leaf.Name.{Name}
use Rattle.pst_ast.specs.ExpressionTree.{ExprTree, PathTree, PathDotted, PathItem, PathLongItem}
use Rattle.pst_ast.specs.DeclarationTree.{UnitTree}
use Rattle.pst_num.specs.Arithmetic.{sum_of}
use Rattle.pst_ast.specs.declared.scope_declaration.Declaration.{Declaration}
use Rattle.pst_ast.specs.Declarations.{declarations}
use Rattle.pst_ast.specs.Sorts.{is_item}
use Rattle.pst_ast.specs.declared.environment.Environment.{Environment}
use Rattle.pst_ast.specs.declared.referent.Owner.TheVariants.{Nobody}
use Rattle.pst_ast.specs.declared.referent.Referent.{Referent}
use Rattle.pst_ast.specs.declared.referent.Referent.TheVariants.{Declared}
use Rattle.pst_ast.specs.declared.referent.PathPart.{PathPart}
use Rattle.pst_ast.specs.declared.referent.PathReferent.{PathReferent}
use Rattle.pst_ast.specs.declared.referent.Checked.{Checked}
use Rattle.pst_ast.specs.declared.referent.Checked.TheVariants.{Is, Breaks}
use Rattle.pst_ast.specs.Lookups.{if_sort}
use Rattle.pst_ast.specs.Paths.{is_value, read_path}
use Rattle.pst_ast.specs.Uses.{Use, Reads, TakesItem, part_of, parts_of, expr_uses, environment}
use Rattle.pst_ast.specs.NameRules.{item_by}
use Rattle.pst_type_rules.specs.Enums.{DeclaredItem, item_at}
use Rattle.pst_type_rules.specs.Values.{value_under}

-- ---- the enum item that is named

abbrev pub if_item : Referent → Option Declaration
if_item (Declared d) = if_sort is_item d
if_item _ = None

abbrev pub item_in : Checked PathReferent → Option Declaration
item_in (Is path) = if_item path.last
item_in (Breaks place rule) = None

-- an item by itself
abbrev pub item_read : List Declaration → List (List ℕ) → Environment → PathPart → List PathPart → Option Declaration
item_read ds names at first rest = item_in (read_path ds names at is_value first rest)

abbrev pub item_of_path : List Declaration → List (List ℕ) → Environment → PathTree → Option Declaration
item_of_path ds names at (PathDotted first rest) = item_read ds names at (part_of first) (parts_of rest)
item_of_path ds names at (PathItem enum colons item) = item_by ds at.component None enum item
item_of_path ds names at (PathLongItem component colons enum more_colons item) = item_by ds at.component (Some component) enum item

abbrev pub item_of_use : List Declaration → List (List ℕ) → Use → Option Declaration
item_of_use ds names (Reads at first rest) = item_read ds names at first rest
item_of_use ds names (TakesItem at component enum item) = item_by ds at.component component enum item
item_of_use ds names _ = None

-- ---- values

-- the value of an expression, where the items whose names stand at these places have these values
abbrev pub value_by : List Declaration → List (List ℕ) → (Place → Option ℤ) → Environment → ExprTree → Option ℤ
value_by ds names known at expr = value_under (λ path. option_and_then (λ d. known d.name.place) (item_of_path ds names at path)) expr

-- The value of the item whose name stands at a place: that of its expression, or else one more than the item before it has.
-- It is found in finitely many steps, so an item that needs itself has none.
pub data IsItemValue (units : List UnitTree) (names : List (List ℕ)) : Place → ℤ → Type 0 where
  First : (place : Place) (i : DeclaredItem) → item_at units place ≡ Some i → i.expr ≡ None → i.before ≡ None → IsItemValue units names place (pos 0)
  Next : (place : Place) (i : DeclaredItem) (before : Name) (v next : ℤ) → item_at units place ≡ Some i → i.expr ≡ None → i.before ≡ Some before
      → IsItemValue units names before.place v → sum_of v (pos 1) ≡ Some next → IsItemValue units names place next
  Given : (place : Place) (i : DeclaredItem) (expr : ExprTree) (known : Place → Option ℤ) (v : ℤ) → item_at units place ≡ Some i → i.expr ≡ Some expr
      → ((p : Place) (w : ℤ) → known p ≡ Some w → IsItemValue units names p w)
      → value_by (declarations units) names known (environment i.component Nobody) expr ≡ Some v → IsItemValue units names place v

-- The value of an expression in its environment: some items have values, and operators give it from these.
pub record HasValue (units : List UnitTree) (names : List (List ℕ)) (at : Environment) (expr : ExprTree) (v : ℤ) : Type 0 where
  pub known : Place → Option ℤ
  pub items : (p : Place) (w : ℤ) → known p ≡ Some w → IsItemValue units names p w
  pub value : value_by (declarations units) names known at expr ≡ Some v

-- It names enum items alone, also where their values aren't needed, and has the value.
pub record IsConstant (units : List UnitTree) (names : List (List ℕ)) (at : Environment) (expr : ExprTree) (v : ℤ) : Type 0 where
  pub items : (u : Use) → Contains (expr_uses at expr) u → IsSome (item_of_use (declarations units) names u)
  pub value : HasValue units names at expr v
