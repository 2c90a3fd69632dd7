-- The fault of a text, where there is room for so many tokens.
use Rattle.std.specs.Prelude.{◌≡◌, ℕ, suc, ◌<◌, ◌≤◌, ◌⊎◌, List, [], ◌∷◌, ◌++◌}
use Rattle.pst_base.specs.declared.position.Place.{Place}
use Rattle.pst_token.specs.Parts.{Part, lexeme, text_of, BeginsWith}
use Rattle.pst_token.specs.Tokens.{place_after, Ending, complete, bad, wide, IsReading}
use Rattle.pst_lexer.specs.declared.fault.LexFault.{LexFault}
use Rattle.pst_lexer.specs.declared.fault.LexFault.TheVariants as fault

-- how many tokens the parts have
abbrev pub token_count : List Part → ℕ
token_count [] = 0
token_count (lexeme l ∷ parts) = suc (token_count parts)
token_count (_ ∷ parts) = token_count parts

-- the text ends so at this place, and there is room for the tokens before it
pub record StopsAt (file room : ℕ) (text : List ℕ) (ending : Ending) (place : Place) : Type 0 where
  pub parts : List Part
  pub rest : List ℕ
  pub reading : IsReading text parts rest ending
  pub few : token_count parts ≤ room
  pub at : place ≡ place_after file (text_of parts)

-- more tokens than there is room for stand before any fault
pub record HasMany (room : ℕ) (text : List ℕ) : Type 0 where
  pub parts : List Part
  pub rest : List ℕ
  pub front : BeginsWith text parts rest
  pub many : room < token_count parts

-- the text has this fault; want of memory is none
abbrev pub HasFault : ℕ → ℕ → List ℕ → LexFault → Type 0
HasFault file room text (fault.Bad place) = StopsAt file room text bad place
HasFault file room text (fault.Wide place) = StopsAt file room text wide place
HasFault file room text fault.Many = HasMany room text
HasFault file room text fault.NoMemory = ⊥

-- every text that begins with the bytes has this fault
abbrev pub AlwaysHasFault : ℕ → ℕ → List ℕ → LexFault → Type 0
AlwaysHasFault file room bytes f = (more : List ℕ) → HasFault file room (bytes ++ more) f

-- the text has tokens, and there is room for them
pub record HasTokens (room : ℕ) (text : List ℕ) : Type 0 where
  pub parts : List Part
  pub reading : IsReading text parts [] complete
  pub few : token_count parts ≤ room

-- a text has tokens or a fault, never both, and one fault
pub record HasOneOutcome (file room : ℕ) (text : List ℕ) : Type 0 where
  pub outcome : HasTokens room text ⊎ ((f : LexFault) × HasFault file room text f)
  pub apart : HasTokens room text → (f : LexFault) → HasFault file room text f → ⊥
  pub one : (f g : LexFault) → HasFault file room text f → HasFault file room text g → f ≡ g

abbrev pub EachTextHasOneOutcome : Type 0
EachTextHasOneOutcome = (file room : ℕ) (text : List ℕ) → HasOneOutcome file room text
