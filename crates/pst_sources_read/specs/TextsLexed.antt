-- Texts on the way, as they are cut into tokens.
use Rattle.std.specs.Prelude.{◌≡◌, ℕ, ◌+◌, ◌-◌, ◌≤◌, List, [], ◌∷◌, ◌++◌, length, take}
use Rattle.std.specs.List.{sum_by}
use Rattle.pst_token.specs.declared.token.Token.{Token}
use Rattle.pst_token.specs.Tokens.{AreTokens}
use Rattle.pst_lexer.specs.Lexing.{OnlyAdds}
use Rattle.pst_lexer.specs.Numbering.{AreNumbered}
use Rattle.pst_texts.specs.Texts.{AreTokensInTurn}
use Rattle.pst_sources_read.specs.Limits.{most_tokens}

-- the tokens of a text, whose new names were added to the table
pub record IsTextLexed (file room : ℕ) (text : List ℕ) (old new : List (List ℕ)) (tokens : List Token) : Type 0 where
  pub are : AreTokens file new text tokens
  pub few : length tokens ≤ room + 1
  pub grown : OnlyAdds old new
  pub numbered : AreNumbered (length old) tokens (length new)

-- one more text was cut into tokens, and this room is left
pub record IsTextAdded (file room left : ℕ) (text : List ℕ) (old new : List (List ℕ)) (before after : List (List Token)) : Type 0 where
  pub tokens : List Token
  pub lexed : IsTextLexed file room text old new tokens
  pub added : after ≡ before ++ tokens ∷ []
  pub left_is : left + (length tokens - 1) ≡ room

-- the tokens of so many texts, and what room they leave
pub record AreLexedSoFar (texts : List (List ℕ)) (number : ℕ) (names : List (List ℕ)) (tokens : List (List Token)) (room : ℕ) : Type 0 where
  pub turn : AreTokensInTurn 0 names (take number texts) tokens 0 (length names)
  pub room_is : room + sum_by (λ ts. length ts - 1) tokens ≡ most_tokens
