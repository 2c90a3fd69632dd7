-- What the names of a list mean, in order of place.
use Rattle.std.specs.Prelude.{◌≡◌, ◌↔◌, ◌⊎◌, List, Option, Some, length}
use Rattle.std.specs.List.{filter_map, Contains, AllAdjacentBelow}
use Rattle.std.specs.Option.{option_map}
use Rattle.pst_base.specs.Places.{IsBefore}
use Rattle.pst_ast.specs.declared.scope_declaration.Declaration.{Declaration}
use Rattle.pst_ast.specs.declared.entry.NameMeaning.{NameMeaning}
use Rattle.pst_ast.specs.declared.referent.Meant.{Meant}
use Rattle.pst_ast.specs.Scopes.{AreInOrder, Numbers, numbers_of}

-- a name with what it stands for, as numbers
abbrev pub Means : List Declaration → Meant → NameMeaning → Type 0
Means ds n m = (m.at ≡ n.name.place) × (numbers_of ds n.referent ≡ Some (m.target, m.member))

-- each is what some name of the list means, in order of place, and none is left out
pub record AreMeanings (ds : List Declaration) (meant : List Meant) (meanings : List NameMeaning) : Type 0 where
  pub order : AreInOrder meanings
  pub each : (m : NameMeaning) → Contains meanings m ↔ ((n : Meant) × Contains meant n × Means ds n m)

-- ---- before they are in order

abbrev pub with_numbers : Meant → Numbers → NameMeaning
with_numbers n numbers = record { at = n.name.place; target = numbers.0; member = numbers.1 }

-- what a name means, where it has numbers
abbrev pub meaning_of : List Declaration → Meant → Option NameMeaning
meaning_of ds n = option_map (with_numbers n) (numbers_of ds n.referent)

abbrev pub meanings_of : List Declaration → List Meant → List NameMeaning
meanings_of ds meant = filter_map (meaning_of ds) meant

-- none stands at an earlier place than the one in front of it
abbrev pub AreSorted : List NameMeaning → Type 0
AreSorted meanings = AllAdjacentBelow (λ m n. ¬ IsBefore n.at m.at) meanings (length meanings)

-- two lists have the same meanings, however often
abbrev pub HaveSame : List NameMeaning → List NameMeaning → Type 0
HaveSame some others = (m : NameMeaning) → Contains some m ↔ Contains others m

-- a list has one meaning more
abbrev pub HasOneMore : List NameMeaning → NameMeaning → List NameMeaning → Type 0
HasOneMore some one more = (m : NameMeaning) → Contains more m ↔ (Contains some m ⊎ (one ≡ m))
