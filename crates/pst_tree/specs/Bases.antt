-- What types have with their bases, in order and by number.
use Rattle.std.specs.Prelude.{ℕ, zero, suc, List, [], ◌∷◌, ◌++◌, Bool, length}
use Rattle.std.specs.List.{flat_map, position_or_len}
use Rattle.std.specs.Option.{option_map_or}
use Rattle.pst_ast.specs.declared.scope_declaration.Declaration.{Declaration}
use Rattle.pst_ast.specs.declared.scope_declaration.Sort.{Sort}
use Rattle.pst_ast.specs.Sorts.{same_place, is_action, is_object, is_function, is_field, is_reference, is_claim, is_handle}
use Rattle.pst_ast.specs.Lookups.{base_of}
use Rattle.pst_type_rules.specs.Members.{those_that, own_members}

-- ---- bases

-- a type and its bases, so many of them in all, the furthest first
abbrev pub bases_within : ℕ → List Declaration → Declaration → List Declaration
bases_within zero ds d = []
bases_within (suc k) ds d = option_map_or (bases_within k ds) (base_of ds d) [] ++ d ∷ []

-- a type and its bases, the furthest first (a chain of bases without a loop isn't longer than the declarations)
unfoldable pub with_bases : List Declaration → Declaration → List Declaration
with_bases ds d = bases_within (length ds) ds d

-- ---- members

-- what a type has, its base's members first
abbrev pub members : List Declaration → Declaration → List Declaration
members ds d = flat_map (own_members ds) (with_bases ds d)

abbrev pub members_that : (Sort → Bool) → List Declaration → Declaration → List Declaration
members_that test ds d = those_that test (members ds d)

abbrev pub fields_of : List Declaration → Declaration → List Declaration
fields_of ds d = members_that is_field ds d

abbrev pub references_of : List Declaration → Declaration → List Declaration
references_of ds d = members_that is_reference ds d

abbrev pub claims_of : List Declaration → Declaration → List Declaration
claims_of ds d = members_that is_claim ds d

abbrev pub handles_of : List Declaration → Declaration → List Declaration
handles_of ds d = members_that is_handle ds d

-- the references and claims of an action are numbered together, the references first
abbrev pub needs_of : List Declaration → Declaration → List Declaration
needs_of ds d = references_of ds d ++ claims_of ds d

-- ---- numbers

-- how many stand before a declaration in a list of declarations
abbrev pub number_in : List Declaration → Declaration → ℕ
number_in list d = position_or_len (λ m. same_place m.name.place d.name.place) list

abbrev pub reference_number : List Declaration → Declaration → Declaration → ℕ
reference_number ds owner d = number_in (references_of ds owner) d

abbrev pub claim_number : List Declaration → Declaration → Declaration → ℕ
claim_number ds owner d = number_in (claims_of ds owner) d

abbrev pub handle_number : List Declaration → Declaration → Declaration → ℕ
handle_number ds owner d = number_in (handles_of ds owner) d

-- action types, object types and functions are numbered each by themselves, in order of declaration
abbrev pub action_number : List Declaration → Declaration → ℕ
action_number ds d = number_in (those_that is_action ds) d

abbrev pub object_number : List Declaration → Declaration → ℕ
object_number ds d = number_in (those_that is_object ds) d

abbrev pub function_number : List Declaration → Declaration → ℕ
function_number ds d = number_in (those_that is_function ds) d
