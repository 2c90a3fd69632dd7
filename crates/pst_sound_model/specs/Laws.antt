-- Laws of the definitions: the model of sources is sound.
use Rattle.std.specs.Prelude.{ℕ, List, map}
use Rattle.std.specs.List.{flat_map, AllZip}
use Rattle.pst_token.specs.declared.token.Token.{Token}
use Rattle.pst_token.specs.Order.{AreRising}
use Rattle.pst_texts.specs.Texts.{AreTokensOfTexts}
use Rattle.pst_ast.specs.Answers.{IsWhole}
use Rattle.pst_ast.specs.DeclarationTree.{UnitTree}
use Rattle.pst_ast.specs.DeclarationSpelling.{spell_unit}
use Rattle.pst_model.specs.ModelTree.{ModelTree}
use Rattle.pst_model.specs.Sound.{IsSound}
use Rattle.pst_elab_rules.specs.Ends.{IsElaborated}

-- the model of sources that keep the rules and limits is sound, where their tokens, one after the other, stand at rising places
abbrev pub ModelsAreSound : Type 0
ModelsAreSound =
    (units : List UnitTree) (names : List (List ℕ)) (component action : List ℕ) (model : ModelTree) (root : ℕ) → AreRising (map (λ token. token.place) (flat_map spell_unit units)) → IsElaborated units names component action model root
    → IsSound model

-- as they do where texts spell the sources
abbrev pub ModelsOfTextsAreSound : Type 0
ModelsOfTextsAreSound =
    (texts names : List (List ℕ)) (tokens : List (List Token)) (units : List UnitTree) (component action : List ℕ) (model : ModelTree) (root : ℕ) → AreTokensOfTexts texts names tokens → AllZip IsWhole tokens units
    → IsElaborated units names component action model root → IsSound model
