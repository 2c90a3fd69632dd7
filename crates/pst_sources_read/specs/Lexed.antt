-- The tokens of several sources.
use Rattle.std.specs.Prelude.{◌≡◌, ◌≢◌, ℕ, ◌-◌, ◌≤◌, List, [], length, take, slice_get, Some}
use Rattle.std.specs.List.{AllZip, sum, sum_by}
use Rattle.pst_token.specs.declared.token.Token.{Token}
use Rattle.pst_token.specs.Parts.{Part}
use Rattle.pst_token.specs.Tokens.{complete, IsReading}
use Rattle.pst_lexer.specs.declared.fault.LexFault.{LexFault}
use Rattle.pst_lexer.specs.Fault.{HasFault, token_count}
use Rattle.pst_texts.specs.Texts.{AreTokensOfTexts, HaveRoom}
use Rattle.pst_sources_read.specs.Limits.{most_tokens}

-- These are the tokens of the texts and their own table of names, and there is room for them.
pub record AreLexed (texts names : List (List ℕ)) (tokens : List (List Token)) : Type 0 where
  pub are : AreTokensOfTexts texts names tokens
  pub room : HaveRoom most_tokens tokens

-- the text is a list of so many tokens, its end not counted
pub record HasTokenCount (text : List ℕ) (count : ℕ) : Type 0 where
  pub parts : List Part
  pub reading : IsReading text parts [] complete
  pub count_is : count ≡ token_count parts

-- The first text that has a fault: those before it are lists of tokens, and there is room for them; in what room they leave, this one has it.
pub record HasTextFault (texts : List (List ℕ)) (fault : LexFault) : Type 0 where
  pub number : ℕ
  pub text : List ℕ
  pub there : slice_get texts number ≡ Some text
  pub counts : List ℕ
  pub counted : AllZip HasTokenCount (take number texts) counts
  pub room : sum counts ≤ most_tokens
  pub has : HasFault number (most_tokens - sum counts) text fault
