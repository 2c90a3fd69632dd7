-- Units, one after another.
use Rattle.std.proofs.Common.{◌≡◌, ◌∙◌, ℕ, ◌+◌, ◌<◌, ◌≤◌, Bool, List, [], ◌∷◌, ◌++◌, length, get_or, take, map, refl, ap, sym, subst}
use Rattle.std.specs.Prelude.{Some, slice_get}
use Rattle.std.specs.List.{AllZip}
use Rattle.std.proofs.lemmas.List.{take_all}
use Rattle.std.proofs.lemmas.Option.{slice_get_read}
use Rattle.pst_base.specs.declared.position.Place.{Place}
use Rattle.pst_token.specs.declared.token.Token.{Token}
use Rattle.pst_ast.specs.Answers.{IsWhole}
use Rattle.pst_ast.specs.DeclarationTree.{UnitTree}
use Rattle.pst_sources_read.specs.declared.parsing.UnitsEnd.{UnitsEnd}
use Rattle.pst_sources_read.specs.declared.parsing.UnitsEnd.TheVariants as end
use Rattle.pst_sources_read.specs.Parsed.{AreParsed, HasSyntaxFault, IsUnitsEnd}
use Rattle.pst_sources_read.specs.UnitsParsed.{IsFaultAt, IsUnitEnd}
use Rattle.pst_sources_read.proofs.Pairs.{pairs_further}

-- one more source is a unit
pub more_parsed : (tokens : List (List Token)) (i : ℕ) (source : List Token) (before after : List UnitTree) (unit : UnitTree)
    → i < length tokens → source ≡ get_or tokens i source → AreParsed (take i tokens) before → IsWhole source unit → after ≡ before ++ unit ∷ [] → AreParsed (take (i + 1) tokens) after
more_parsed tokens i source before after unit below is so_far whole added =
    subst (AreParsed (take (i + 1) tokens)) (sym added) (pairs_further IsWhole tokens i source before unit below is so_far whole)

-- the next one isn't
pub end_so_far : (tokens : List (List Token)) (i : ℕ) (source : List Token) (before : List UnitTree) (e : UnitsEnd)
    → i < length tokens → source ≡ get_or tokens i source → AreParsed (take i tokens) before → IsUnitEnd source e → IsUnitsEnd tokens e
end_so_far tokens i source before (end.Faulty deep place) below is so_far at =
    record { number = i; source = source; there = slice_get_read tokens (length tokens) i source refl below is; before = before; parsed = so_far; index = at.index; fault = at.fault; token = at.token; is_token = at.is_token; at = at.at }
end_so_far tokens i source before end.NoMemory below is so_far at = tt
