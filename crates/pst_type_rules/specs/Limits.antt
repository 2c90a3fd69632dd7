-- How large the parts of the sources may be.
use Rattle.std.specs.Prelude.{◌≡◌, ℕ, ◌+◌, ◌-◌, ◌^◌, ◌≤◌, pos, Bool, true, false, ◌&&◌, List, [], ◌∷◌, Option, Some, None}
use Rattle.std.specs.List.{filter}
use Rattle.std.specs.Option.{option_map_or}
use Rattle.pst_ast.specs.ExpressionTree.{ExprTree}
use Rattle.pst_ast.specs.SharedTree.{PlainTree, PlainInt}
use Rattle.pst_ast.specs.DeclarationTree.{UnitTree}
use Rattle.pst_expr.specs.declared.ranges.Span.{Span}
use Rattle.pst_model.specs.Limits.{most_elements, most_references, most_claims, most_locals, most_parameters, most_weight, most_size}
use Rattle.pst_ast.specs.declared.scope_declaration.Declaration.{Declaration}
use Rattle.pst_ast.specs.declared.scope_declaration.Sort.{Sort}
use Rattle.pst_ast.specs.declared.scope_declaration.Sort.TheVariants as sort
use Rattle.pst_ast.specs.Sorts.{same_place, is_item, is_reference, is_claim}
use Rattle.pst_ast.specs.Uses.{Role, EnumValue, PoolSize, ArraySize, Weight, JoinCount}
use Rattle.pst_type_rules.specs.Constants.{IsConstant}
use Rattle.pst_type_rules.specs.Domains.{span}
use Rattle.pst_type_rules.specs.Sites.{DeclaredField, field_at}
use Rattle.pst_type_rules.specs.Members.{those_that, own_members, AreMembers}

-- items of an enum
abbrev pub most_items : ℕ
most_items = 256

-- items of a `unique`
abbrev pub most_unique : ℕ
most_unique = 64

-- ---- values

abbrev pub enum_values : Span
enum_values = span (pos 0) (pos (2 ^ 31 - 1))

-- what the value of a constant must be in
abbrev pub limits_of : Role → Option Span
limits_of EnumValue = Some enum_values
limits_of (PoolSize object) = Some (span (pos 1) (pos most_size))
limits_of ArraySize = Some (span (pos 1) (pos most_elements))
limits_of Weight = Some (span (pos 1) (pos most_weight))
limits_of (JoinCount branches) = Some (span (pos 0) (pos branches))
limits_of _ = None

-- the widths of plain types
abbrev pub widths_of : PlainTree → Span
widths_of (PlainInt place width) = span (pos 2) (pos 63)
widths_of _ = span (pos 1) (pos 63)

-- ---- counts

abbrev pub is_parameter : Sort → Bool
is_parameter sort.Parameter = true
is_parameter _ = false

abbrev pub is_local : Sort → Bool
is_local sort.Local = true
is_local _ = false

-- a local in the text of an action
abbrev pub is_local_of : Declaration → Declaration → Bool
is_local_of action d = is_local d.sort && option_map_or (same_place action.name.place) d.inside false

-- what is counted in a type, with how many of it there may be
pub data IsLimited (ds : List Declaration) (d : Declaration) : List Declaration → ℕ → Type 0 where
  Items : IsLimited ds d (those_that is_item (own_members ds d)) most_items
  Parameters : IsLimited ds d (those_that is_parameter (own_members ds d)) most_parameters
  Locals : IsLimited ds d (filter (is_local_of d) ds) most_locals
  References : (members : List Declaration) → AreMembers ds d members → IsLimited ds d (those_that is_reference members) most_references
  Claims : (members : List Declaration) → AreMembers ds d members → IsLimited ds d (those_that is_claim members) most_claims

-- How many fields the declaration of one adds: an array as many as it has elements, and none where its size isn't right.
pub data AddsFields (units : List UnitTree) (names : List (List ℕ)) : Declaration → ℕ → Type 0 where
  One : (d : Declaration) (f : DeclaredField) → field_at units d.name.place ≡ Some f → f.size ≡ None → AddsFields units names d 1
  Array : (d : Declaration) (f : DeclaredField) (size : ExprTree) (n : ℕ) → field_at units d.name.place ≡ Some f → f.size ≡ Some size → IsConstant units names f.at size (pos n)
      → 1 ≤ n → n ≤ most_elements → AddsFields units names d n
  WrongArray : (d : Declaration) (f : DeclaredField) (size : ExprTree) → field_at units d.name.place ≡ Some f → f.size ≡ Some size
      → ((n : ℕ) → IsConstant units names f.at size (pos n) → 1 ≤ n → n ≤ most_elements → ⊥) → AddsFields units names d 0

-- how many fields several declarations add
pub data AddTogether (units : List UnitTree) (names : List (List ℕ)) : List Declaration → ℕ → Type 0 where
  Nothing : AddTogether units names [] 0
  More : (d : Declaration) (ds : List Declaration) (n m : ℕ) → AddsFields units names d n → AddTogether units names ds m → AddTogether units names (d ∷ ds) (n + m)
