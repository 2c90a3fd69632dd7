-- How the numbers of fields are kept.
use Rattle.std.specs.Prelude.{◌≡◌, ℕ, ◌+◌, List, [], ◌∷◌, Option, Some, None, IfSome, if◌then◌else◌, slice_get}
use Rattle.pst_base.specs.declared.position.Place.{Place}
use Rattle.pst_ast.specs.declared.scope_declaration.Declaration.{Declaration}
use Rattle.pst_ast.specs.Sorts.{same_place}
use Rattle.pst_terms.specs.Sources.{Sources}
use Rattle.pst_terms.specs.Fields.{count_of, field_number}
use Rattle.pst_sources.specs.declared.fields.FieldNumber.{FieldNumber}
use Rattle.pst_sources.specs.declared.fields.FieldRow.{FieldRow}

-- the places of fields, the first of which has that number
abbrev pub numbered : Sources → ℕ → List Declaration → List FieldNumber
numbered s n [] = []
numbered s n (m ∷ more) = record { place = m.name.place; number = n } ∷ numbered s (n + count_of s m) more

-- the number that is kept at a place
abbrev pub number_at : List FieldNumber → Place → Option ℕ
number_at [] place = None
number_at (f ∷ more) place = if same_place f.place place then Some f.number else number_at more place

-- what is kept at the place of a field is its number in the type
abbrev pub AreNumbersOf : Sources → Declaration → List FieldNumber → Type 0
AreNumbersOf s owner fields = (d : Declaration) → IfSome (number_at fields d.name.place) (λ n. n ≡ field_number s owner d)

-- each row has the numbers of its type
abbrev pub AreFieldRows : Sources → List FieldRow → Type 0
AreFieldRows s rows = (k : ℕ) (row : FieldRow) → slice_get rows k ≡ Some row → AreNumbersOf s row.owner row.fields.items
