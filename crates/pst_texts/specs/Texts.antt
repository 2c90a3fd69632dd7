-- The tokens of texts, one after another, in one table of names.
use Rattle.std.specs.Prelude.{◌≡◌, ◌↔◌, ℕ, suc, ◌-◌, ◌≤◌, List, [], ◌∷◌, length, sum_by}
use Rattle.pst_base.specs.Names.{AreDifferent}
use Rattle.pst_token.specs.declared.token.Token.{Token}
use Rattle.pst_token.specs.Tokens.{AreTokens}
use Rattle.pst_lexer.specs.Numbering.{AreNumbered, AreOwnTokens}

-- The tokens of each text, the first one in the file of that number and the others in the next ones. Where `free` is the least
-- number that no name has, new names take the next numbers, through all texts.
abbrev pub AreTokensInTurn : ℕ → List (List ℕ) → List (List ℕ) → List (List Token) → ℕ → ℕ → Type 0
AreTokensInTurn file names [] [] free next = next ≡ free
AreTokensInTurn file names (text ∷ texts) (tokens ∷ more) free next =
    (middle : ℕ) × AreTokens file names text tokens × AreNumbered free tokens middle × AreTokensInTurn (suc file) names texts more middle next
AreTokensInTurn file names _ _ free next = ⊥

-- The tokens of each of the texts, and their own table: it has the names of these texts alone, in the order in which they first
-- stand, text after text.
pub record AreTokensOfTexts (texts : List (List ℕ)) (names : List (List ℕ)) (tokens : List (List Token)) : Type 0 where
  pub different : AreDifferent names
  pub are : AreTokensInTurn 0 names texts tokens 0 (length names)

-- the texts share the room for so many tokens, in which the end of a text takes none
abbrev pub HaveRoom : ℕ → List (List Token) → Type 0
HaveRoom most tokens = sum_by (λ ts. length ts - 1) tokens ≤ most

-- texts have one own table, and in it one list of tokens each
abbrev pub TokensOfTextsAreOne : Type 0
TokensOfTextsAreOne =
    (texts names others : List (List ℕ)) (tokens more : List (List Token))
    → AreTokensOfTexts texts names tokens → AreTokensOfTexts texts others more → (names ≡ others) × (tokens ≡ more)

-- one text alone has its own tokens
abbrev pub OneTextHasItsOwn : Type 0
OneTextHasItsOwn = (text : List ℕ) (names : List (List ℕ)) (tokens : List Token) → AreTokensOfTexts (text ∷ []) names (tokens ∷ []) ↔ AreOwnTokens 0 text names tokens
