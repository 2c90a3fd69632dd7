-- Laws of the definitions: names are declared at places of their own.
use Rattle.std.specs.Prelude.{◌≡◌, ℕ, List, map, slice_get, Some}
use Rattle.std.specs.List.{flat_map, AllZip}
use Rattle.pst_token.specs.declared.token.Token.{Token}
use Rattle.pst_token.specs.Order.{AreRising}
use Rattle.pst_texts.specs.Texts.{AreTokensOfTexts}
use Rattle.pst_ast.specs.Answers.{IsWhole}
use Rattle.pst_ast.specs.DeclarationTree.{UnitTree}
use Rattle.pst_ast.specs.DeclarationSpelling.{spell_unit}
use Rattle.pst_ast.specs.declared.scope_declaration.Declaration.{Declaration}
use Rattle.pst_ast.specs.Declarations.{declarations}
use Rattle.pst_sound_model.specs.SoundExpressionsConditions.{HaveOwnPlaces}

-- they are so where the tokens of all sources, one after the other, stand at rising places
abbrev pub NamesHaveOwnPlaces : Type 0
NamesHaveOwnPlaces = (units : List UnitTree) → AreRising (map (λ token. token.place) (flat_map spell_unit units)) → HaveOwnPlaces (declarations units)

-- and each of them is declared once
abbrev pub NamesStandApart : Type 0
NamesStandApart =
    (units : List UnitTree) → AreRising (map (λ token. token.place) (flat_map spell_unit units))
    → (j k : ℕ) (d e : Declaration) → slice_get (declarations units) j ≡ Some d → slice_get (declarations units) k ≡ Some e → d.name.place ≡ e.name.place → j ≡ k

-- the tokens of the units that several texts spell stand at rising places
abbrev pub TokensOfUnitsRise : Type 0
TokensOfUnitsRise =
    (texts names : List (List ℕ)) (tokens : List (List Token)) (units : List UnitTree) → AreTokensOfTexts texts names tokens → AllZip IsWhole tokens units → AreRising (map (λ token. token.place) (flat_map spell_unit units))
