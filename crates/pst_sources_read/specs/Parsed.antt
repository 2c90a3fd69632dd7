-- The units of several sources.
use Rattle.std.specs.Prelude.{◌≡◌, ℕ, Bool, true, false, List, take, slice_get, Some}
use Rattle.std.specs.List.{AllZip}
use Rattle.pst_base.specs.declared.position.Place.{Place}
use Rattle.pst_token.specs.declared.token.Token.{Token}
use Rattle.pst_ast.specs.Answers.{IsWhole, IsFault}
use Rattle.pst_ast.specs.DeclarationTree.{UnitTree}
use Rattle.pst_ast.specs.Rule.{TheUnit}
use Rattle.pst_ast.specs.declared.fault.SyntaxFault.{SyntaxFault}
use Rattle.pst_ast.specs.declared.fault.SyntaxFault.TheVariants as fault
use Rattle.pst_sources_read.specs.declared.parsing.UnitsEnd.{UnitsEnd}
use Rattle.pst_sources_read.specs.declared.parsing.UnitsEnd.TheVariants as end

-- These are the units of the sources.
abbrev pub AreParsed : List (List Token) → List UnitTree → Type 0
AreParsed tokens units = AllZip IsWhole tokens units

-- a token that breaks a limit, or an unexpected one
abbrev pub syntax_fault : Bool → ℕ → SyntaxFault
syntax_fault true index = fault.Deep index
syntax_fault false index = fault.At index

-- The first source that is no unit: those before it are, and its fault is at the token at this place.
pub record HasSyntaxFault (tokens : List (List Token)) (deep : Bool) (place : Place) : Type 0 where
  pub number : ℕ
  pub source : List Token
  pub there : slice_get tokens number ≡ Some source
  pub before : List UnitTree
  pub parsed : AreParsed (take number tokens) before
  pub index : ℕ
  pub fault : IsFault TheUnit source 0 0 (syntax_fault deep index)
  pub token : Token
  pub is_token : slice_get source index ≡ Some token
  pub at : place ≡ token.place

-- why not all sources are units, where memory sufficed
abbrev pub IsUnitsEnd : List (List Token) → UnitsEnd → Type 0
IsUnitsEnd tokens (end.Faulty deep place) = HasSyntaxFault tokens deep place
IsUnitsEnd tokens end.NoMemory = Unit {0}
