-- What a contract sees of a lexer.
use Rattle.std.specs.Prelude.{◌≡◌, ℕ, List, [], ◌++◌, ◌⊎◌, Option, Result, Ok, Err}
use Rattle.pst_token.specs.declared.token.Token.{Token}
use Rattle.pst_token.specs.Parts.{Part, BeginsWith}
use Rattle.pst_token.specs.Tokens.{lexemes_of, AreTokensOf}
use Rattle.pst_lexer.specs.declared.fault.LexFault.{LexFault}
use Rattle.pst_lexer.specs.declared.fault.LexFault.TheVariants as fault

-- the file, the room for tokens, the bytes taken, the tokens so far, and the fault once there is one
pub record Lexing : Type 0 where
  pub file : ℕ
  pub room : ℕ
  pub taken : List ℕ
  pub tokens : List Token
  pub fault : Option LexFault

-- the tokens are those of a front of the bytes, however they go on, and the names have their texts in the table
pub record AreSoFar (file : ℕ) (names : List (List ℕ)) (bytes : List ℕ) (tokens : List Token) : Type 0 where
  pub parts : List Part
  pub rest : List ℕ
  pub front : (more : List ℕ) → BeginsWith (bytes ++ more) parts (rest ++ more)
  pub each : AreTokensOf names (lexemes_of file parts) tokens

-- the tokens so far of a lexer have their texts in the table
abbrev pub HasItsTexts : List (List ℕ) → Lexing → Type 0
HasItsTexts names lexing = AreSoFar lexing.file names lexing.taken lexing.tokens

-- the new table has the texts of the old one, and maybe more behind them
abbrev pub OnlyAdds : List (List ℕ) → List (List ℕ) → Type 0
OnlyAdds old new = (more : List (List ℕ)) × (new ≡ old ++ more)

-- the piece was taken whole, unless memory ran out
abbrev pub IsTaken : List ℕ → List ℕ → List ℕ → Result (Unit {0}) LexFault → Type 0
IsTaken old piece new (Err fault.NoMemory) = (new ≡ old) ⊎ (new ≡ old ++ piece)
IsTaken old piece new _ = new ≡ old ++ piece

-- the tokens so far keep their texts as the table grows
abbrev pub TextsStayAsNamesGrow : Type 0
TextsStayAsNamesGrow = (names more : List (List ℕ)) (lexing : Lexing) → HasItsTexts names lexing → HasItsTexts (names ++ more) lexing
