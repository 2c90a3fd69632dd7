-- The fields of types by number: each element of an array is one.
use Rattle.std.specs.Prelude.{ℕ, zero, suc, ◌+◌, List, [], ◌∷◌, Option, Some, None, if◌then◌else◌}
use Rattle.std.specs.Option.{option_map, option_and_then}
use Rattle.pst_ast.specs.declared.scope_declaration.Declaration.{Declaration}
use Rattle.pst_ast.specs.Sorts.{same_place}
use Rattle.pst_type_rules.specs.Sites.{field_at}
use Rattle.pst_tree.specs.Bases.{fields_of}
use Rattle.pst_terms.specs.Sources.{Sources, declared_in, amount_of}

-- n numbers from one on
abbrev pub counted : ℕ → ℕ → List ℕ
counted first zero = []
counted first (suc n) = first ∷ counted (first + 1) n

-- the number of elements of an array; none for a field that is no array
abbrev pub size_of : Sources → Declaration → Option ℕ
size_of s d = option_map (amount_of s) (option_and_then (λ f. f.size) (field_at s.units d.name.place))

abbrev pub elements_in : Option ℕ → ℕ
elements_in None = 1
elements_in (Some n) = n

-- as how many fields a declared field counts
abbrev pub count_of : Sources → Declaration → ℕ
count_of s d = elements_in (size_of s d)

abbrev pub field_number_in : Sources → List Declaration → Declaration → ℕ
field_number_in s [] d = 0
field_number_in s (m ∷ more) d = if same_place m.name.place d.name.place then 0 else count_of s m + field_number_in s more d

-- the number of a field of a type, for an array that of its first element
abbrev pub field_number : Sources → Declaration → Declaration → ℕ
field_number s owner d = field_number_in s (fields_of (declared_in s) owner) d
