-- The types of the sources, and what each use of a name means, as numbers.
use Rattle.std.specs.Prelude.{◌≡◌, ◌↔◌, ℕ, ◌+◌, ◌-◌, ◌^◌, List, [], ◌∷◌, ◌++◌, map, position, Bool, false, not, ◌&&◌, Option, Some, None, is_some, if◌then◌else◌}
use Rattle.std.specs.List.{filter, filter_map, Contains}
use Rattle.std.specs.Option.{option_map, option_map_or, option_and_then}
use Rattle.pst_base.specs.declared.position.Place.{Place}
use Rattle.pst_base.specs.declared.table.NameId.{NameId}
use Rattle.pst_base.specs.Places.{IsBefore}
use Rattle.pst_ast.specs.declared.leaf.Name.{Name}
use Rattle.pst_ast.specs.declared.shared.TypeName.{TypeName}
use Rattle.pst_ast.specs.DeclarationTree.{UnitTree}
use Rattle.pst_ast.specs.declared.scope_declaration.Declaration.{Declaration}
use Rattle.pst_ast.specs.declared.scope_declaration.Sort.{Sort}
use Rattle.pst_ast.specs.declared.scope_declaration.Sort.TheVariants as sort
use Rattle.pst_ast.specs.declared.entry.TypeSort.{TypeSort}
use Rattle.pst_ast.specs.declared.entry.TypeSort.TheVariants as type_sort
use Rattle.pst_ast.specs.declared.entry.TypeEntry.{TypeEntry}
use Rattle.pst_ast.specs.declared.entry.NameMeaning.{NameMeaning}
pub use Rattle.pst_ast.specs.declared.referent.Meant.{Meant}
use Rattle.pst_ast.specs.Declarations.{declarations}
use Rattle.pst_ast.specs.Sorts.{same_place, is_instance, is_pool}
use Rattle.pst_ast.specs.Lookups.{Referent, Declared, Initial, Previous, Number, referent, declared_at, type_here, type_named, component_named, second_of, type_of, stands_for}
use Rattle.pst_ast.specs.Paths.{Checked, Is, Breaks, PathPart, PathReferent, is_value, is_array, read_path}
use Rattle.pst_ast.specs.Uses.{Use, Reads, Repeats, TakesItem, NamesType, NamesBase, Calls, Assigns, Traverses, Ends, Binds, Targets, uses}
use Rattle.pst_ast.specs.NameRules.{enum_by, item_by, end_named, named_in, named_within, Target, target_of}

-- ---- types and functions, in order of declaration

abbrev pub sort_of : Sort → Option TypeSort
sort_of sort.Component = Some type_sort.Component
sort_of (sort.Action base) = Some type_sort.Action
sort_of (sort.Object word) = Some type_sort.Object
sort_of sort.Enumeration = Some type_sort.Enumeration
sort_of sort.Function = Some type_sort.Function
sort_of _ = None

abbrev pub is_type : Sort → Bool
is_type s = is_some (sort_of s)

abbrev pub name_at : List Declaration → Place → Option NameId
name_at ds place = option_map (λ d. d.name.id) (declared_at ds place)

abbrev pub entry_of : List Declaration → Declaration → Option TypeEntry
entry_of ds d = option_map (λ s. record { name = d.name.id; component = option_and_then (name_at ds) d.inside; sort = s; place = d.name.place }) (sort_of d.sort)

abbrev pub entries : List Declaration → List TypeEntry
entries ds = filter_map (entry_of ds) ds

-- ---- numbers

-- the number of the type whose name stands at a place
abbrev pub number_of : List Declaration → Place → Option ℕ
number_of ds place = position (λ e. same_place e.place place) (entries ds)

abbrev pub is_inside : Place → Declaration → Bool
is_inside type d = option_map_or (same_place type) d.inside false

-- the names that are declared in the text of a type, nested types and what stands in them apart
abbrev pub names_in : List Declaration → Place → List Declaration
names_in ds type = filter (λ d. is_inside type d && not (is_type d.sort)) ds

-- the number of a declaration among them, from 1
abbrev pub rank_in : List Declaration → Place → Declaration → Option ℕ
rank_in ds type d = option_map (λ k. k + 1) (position (λ e. same_place e.name.place d.name.place) (names_in ds type))

-- a number of a type, and a number in it
abbrev pub Numbers : Type 0
Numbers = ℕ × ℕ

abbrev pub numbered : List Declaration → Place → Option ℕ → Option Numbers
numbered ds type number = option_and_then (λ n. option_map (λ k. (n, k)) number) (number_of ds type)

abbrev pub member_numbers : List Declaration → Declaration → Option Numbers
member_numbers ds d = option_and_then (λ type. numbered ds type (rank_in ds type d)) d.inside

abbrev pub numbers_of : List Declaration → Referent → Option Numbers
numbers_of ds (Declared d) = if is_type d.sort then numbered ds d.name.place (Some 0) else member_numbers ds d
numbers_of ds (Initial object) = numbered ds object.name.place (Some (2 ^ 32 - 1))
numbers_of ds (Previous object) = numbered ds object.name.place (Some (2 ^ 32 - 2))
numbers_of ds (Number object) = numbered ds object.name.place (Some (2 ^ 32 - 3))

-- ---- the names of a use, each with what it stands for

abbrev pub meant : Name → Option Referent → List Meant
meant name None = []
meant name (Some r) = record { name = name; referent = r } ∷ []

abbrev pub meant_declared : Name → Option Declaration → List Meant
meant_declared name d = meant name (referent d)

abbrev pub meant_each : List Name → List Referent → List Meant
meant_each [] rs = []
meant_each (n ∷ ns) [] = []
meant_each (n ∷ ns) (r ∷ rs) = record { name = n; referent = r } ∷ meant_each ns rs

abbrev pub path_meant : PathPart → List PathPart → Checked PathReferent → List Meant
path_meant first rest (Breaks place rule) = []
path_meant first rest (Is path) = meant_each (map (λ p. p.name) (first ∷ rest)) (path.before ++ path.last ∷ [])

abbrev pub type_meant_by : List Declaration → Option Place → TypeName → Option Name → List Meant
type_meant_by ds component name None = meant_declared name.first (type_here ds component name.first.id)
type_meant_by ds component name (Some second) = meant_declared name.first (component_named ds component name.first) ++ meant_declared second (type_named ds component name)

abbrev pub type_meant : List Declaration → Option Place → TypeName → List Meant
type_meant ds component name = type_meant_by ds component name (second_of name)

abbrev pub component_meant : List Declaration → Option Place → Option Name → List Meant
component_meant ds at None = []
component_meant ds at (Some c) = meant_declared c (component_named ds at c)

abbrev pub along_meant : List Declaration → Option Declaration → List Name → List Meant
along_meant ds component [] = []
along_meant ds component (i ∷ more) =
    meant_declared i (named_within ds component is_instance i) ++ along_meant ds (option_and_then (type_of ds) (named_within ds component is_instance i)) more

abbrev pub target_meant : Name → Name → Checked Target → List Meant
target_meant action reference (Breaks place rule) = []
target_meant action reference (Is t) = record { name = action; referent = Declared t.action } ∷ record { name = reference; referent = Declared t.need } ∷ []

-- a name of `join_branch` has no meaning of this sort
abbrev pub use_meant : List Declaration → List (List ℕ) → Use → List Meant
use_meant ds names (Reads at first rest) = path_meant first rest (read_path ds names at is_value first rest)
use_meant ds names (Repeats at first rest) = path_meant first rest (read_path ds names at is_array first rest)
use_meant ds names (TakesItem at component enum item) =
    component_meant ds at.component component ++ (meant_declared enum (enum_by ds at.component component enum) ++ meant_declared item (item_by ds at.component component enum item))
use_meant ds names (NamesType component wanted name) = type_meant ds component name
use_meant ds names (NamesBase action name) = type_meant ds action.inside name
use_meant ds names (Calls component name) = meant_declared name (type_here ds component name.id)
use_meant ds names (Assigns at name) = meant name (stands_for ds names at name.id)
use_meant ds names (Traverses at name) = meant name (stands_for ds names at name.id)
use_meant ds names (Ends at handle reference) = meant handle (stands_for ds names at handle.id) ++ meant_declared reference (end_named ds names at handle reference.id)
use_meant ds names (Binds component pool) = meant_declared pool (named_in ds component is_pool pool)
use_meant ds names (Targets component pool instances action reference) =
    along_meant ds (declared_at ds component) instances ++ target_meant action reference (target_of ds component instances action reference)
use_meant ds names _ = []

-- ---- meanings

-- some use has a name there that stands for what has these numbers
pub record IsMeaning (units : List UnitTree) (names : List (List ℕ)) (m : NameMeaning) : Type 0 where
  pub used : Use
  pub among : Contains (uses units) used
  pub name : Meant
  pub meant : Contains (use_meant (declarations units) names used) name
  pub at : m.at ≡ name.name.place
  pub numbers : numbers_of (declarations units) name.referent ≡ Some (m.target, m.member)

-- each stands at an earlier place than those behind it
abbrev pub AreInOrder : List NameMeaning → Type 0
AreInOrder [] = Unit {0}
AreInOrder (m ∷ more) = ((n : NameMeaning) → Contains more n → IsBefore m.at n.at) × AreInOrder more

-- The types and functions in order of declaration, and a meaning for each use of a name, in order of place.
pub record AreScopes (units : List UnitTree) (names : List (List ℕ)) (types : List TypeEntry) (meanings : List NameMeaning) : Type 0 where
  pub are_types : types ≡ entries (declarations units)
  pub order : AreInOrder meanings
  pub each : (m : NameMeaning) → Contains meanings m ↔ IsMeaning units names m
