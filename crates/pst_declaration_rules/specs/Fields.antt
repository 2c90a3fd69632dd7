-- The number of fields that declarations add to their types.
use Rattle.std.specs.Prelude.{ℕ, ℤ, pos, nat_le, ◌&&◌, List, Option, Some, None, if◌then◌else◌}
use Rattle.std.specs.Option.{option_map}
use Rattle.pst_base.specs.declared.position.Place.{Place}
use Rattle.pst_ast.specs.ExpressionTree.{ExprTree}
use Rattle.pst_ast.specs.DeclarationTree.{UnitTree}
use Rattle.pst_model.specs.Limits.{most_elements}
use Rattle.pst_ast.specs.declared.scope_declaration.Declaration.{Declaration}
use Rattle.pst_ast.specs.declared.environment.Environment.{Environment}
use Rattle.pst_ast.specs.Sorts.{is_field}
use Rattle.pst_type_rules.specs.Sites.{DeclaredField, field_at}
use Rattle.pst_evaluate.specs.Kept.{constant_by}
use Rattle.pst_declaration_rules.specs.declared.member.Member.{Member}

-- how many elements an array of a size has; none where its size isn't right
abbrev pub elements : Option ℤ → ℕ
elements (Some (pos n)) = if nat_le 1 n && nat_le n most_elements then n else 0
elements _ = 0

abbrev pub fields_by : List Declaration → List (List ℕ) → (Place → Option ℤ) → Environment → Option ExprTree → ℕ
fields_by ds names known at None = 1
fields_by ds names known at (Some size) = elements (constant_by ds names known at size)

-- how many fields a field is
abbrev pub fields_of : List Declaration → List (List ℕ) → (Place → Option ℤ) → DeclaredField → ℕ
fields_of ds names known f = fields_by ds names known f.at f.size

-- how many fields a declaration adds to its type
abbrev pub added_by : List UnitTree → List Declaration → List (List ℕ) → (Place → Option ℤ) → Declaration → Option ℕ
added_by units ds names known d = if is_field d.sort then option_map (fields_of ds names known) (field_at units d.name.place) else Some 0

-- a declaration, with how many it adds
abbrev pub with_fields : List UnitTree → List Declaration → List (List ℕ) → (Place → Option ℤ) → Declaration → Member
with_fields units ds names known d = record { declaration = d; adds = added_by units ds names known d }
