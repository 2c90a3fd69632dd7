-- Numbers of types and names.
use Rattle.std.specs.Prelude.{◌≡◌, List}
use Rattle.std.specs.HashMap.{get}
use Rattle.pst_base.specs.declared.position.Place.{Place}
use Rattle.pst_ast.specs.declared.scope_declaration.Declaration.{Declaration}
use Rattle.pst_ast.specs.Scopes.{number_of}
use Rattle.pst_numbers.specs.declared.numbering.Numbers.{Numbers}
use Rattle.pst_numbers.specs.NumberKeys.{place_key, same_place_key, same_member_key}
use Rattle.pst_numbers.specs.Ranked.{HasRanks}

-- the number of each type, and of each name in the text of one
pub record AreNumbers (ds : List Declaration) (numbers : Numbers) : Type 0 where
  pub of_types : (place : Place) → get same_place_key numbers.types (place_key place) ≡ number_of ds place
  pub of_members : HasRanks ds (get same_member_key numbers.members)
