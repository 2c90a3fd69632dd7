-- Units on the way, as they are parsed.
use Rattle.std.specs.Prelude.{◌≡◌, ℕ, Bool, List, slice_get, Some}
use Rattle.pst_base.specs.declared.position.Place.{Place}
use Rattle.pst_token.specs.declared.token.Token.{Token}
use Rattle.pst_ast.specs.Answers.{IsFault}
use Rattle.pst_ast.specs.Rule.{TheUnit}
use Rattle.pst_sources_read.specs.declared.parsing.UnitsEnd.{UnitsEnd}
use Rattle.pst_sources_read.specs.declared.parsing.UnitsEnd.TheVariants as end
use Rattle.pst_sources_read.specs.Parsed.{syntax_fault}

-- the source is no unit, and its fault is at the token at this place
pub record IsFaultAt (source : List Token) (deep : Bool) (place : Place) : Type 0 where
  pub index : ℕ
  pub fault : IsFault TheUnit source 0 0 (syntax_fault deep index)
  pub token : Token
  pub is_token : slice_get source index ≡ Some token
  pub at : place ≡ token.place

-- why a source is no unit, where memory sufficed
abbrev pub IsUnitEnd : List Token → UnitsEnd → Type 0
IsUnitEnd source (end.Faulty deep place) = IsFaultAt source deep place
IsUnitEnd source end.NoMemory = Unit {0}
