-- What stands in the own table of texts.
use Rattle.std.specs.Prelude.{ℕ, List, All}
use Rattle.pst_token.specs.declared.token.Token.{Token}
use Rattle.pst_token.specs.Lexemes.{IsName}
use Rattle.pst_texts.specs.Texts.{AreTokensOfTexts}

-- Texts that are lists of tokens have names alone in their own table.
abbrev pub NamesOfTextsAreNames : Type 0
NamesOfTextsAreNames = (texts names : List (List ℕ)) (tokens : List (List Token)) → AreTokensOfTexts texts names tokens → All IsName names
