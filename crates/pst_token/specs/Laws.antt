-- Laws about the tokens of a text.
use Rattle.std.specs.Prelude.{◌≡◌, ◌≢◌, ℕ, ◌<◌, List, [], ◌∷◌, ◌++◌, length, map}
use Rattle.std.specs.List.{AllByRecursion}
use Rattle.pst_base.specs.Names.{AreDifferent}
use Rattle.pst_token.specs.declared.kind.Kind.{Kind}
use Rattle.pst_token.specs.declared.kind.Kind.TheVariants as kind
use Rattle.pst_token.specs.declared.token.Token.{Token}
use Rattle.pst_token.specs.Spelling.{spelling_of}
use Rattle.pst_token.specs.Lexemes.{fixed}
use Rattle.pst_token.specs.Parts.{Part, lexeme}
use Rattle.pst_token.specs.Tokens.{Ending, complete, IsReading, AreTokens}
use Rattle.pst_token.specs.Order.{AreRising}

-- the text is read in one way, to its end or up to a fault
pub record HasOneReading (text : List ℕ) : Type 0 where
  pub parts : List Part
  pub rest : List ℕ
  pub ending : Ending
  pub reading : IsReading text parts rest ending
  pub only : (ps : List Part) (r : List ℕ) (e : Ending) → IsReading text ps r e → (ps ≡ parts) × (r ≡ rest) × (e ≡ ending)

abbrev pub EachTextHasOneReading : Type 0
EachTextHasOneReading = (text : List ℕ) → HasOneReading text

-- a text has at most one token list in a table of names
abbrev pub TokensAreDetermined : Type 0
TokensAreDetermined =
    (file : ℕ) (names : List (List ℕ)) (text : List ℕ) (tokens others : List Token)
    → AreDifferent names → AreTokens file names text tokens → AreTokens file names text others → tokens ≡ others

-- the tokens of a text stay its tokens as the table of names grows
abbrev pub TokensStayAsNamesGrow : Type 0
TokensStayAsNamesGrow =
    (file : ℕ) (names more : List (List ℕ)) (text : List ℕ) (tokens : List Token)
    → AreTokens file names text tokens → AreTokens file (names ++ more) text tokens

-- `End` stands last, and nowhere else
pub record EndsOnce (tokens : List Token) : Type 0 where
  pub before_end : List Token
  pub last : Token
  pub all : tokens ≡ before_end ++ last ∷ []
  pub is_end : last.kind ≡ kind.End
  pub only : AllByRecursion (λ token. token.kind ≢ kind.End) before_end

-- the tokens of a text end once, and each stands behind the one before it
abbrev pub TokensAreInOrder : Type 0
TokensAreInOrder =
    (file : ℕ) (names : List (List ℕ)) (text : List ℕ) (tokens : List Token)
    → AreTokens file names text tokens → EndsOnce tokens × AreRising (map (λ token. token.place) tokens)

-- a name's number is that of a text of the table
abbrev pub HasItsNumber : List (List ℕ) → Token → Type 0
HasItsNumber names token = token.kind ≡ kind.Name → token.name.0 < length names

-- the tokens of a text stand in its file, and their names have numbers of the table
abbrev pub TokensBelong : Type 0
TokensBelong =
    (file : ℕ) (names : List (List ℕ)) (text : List ℕ) (tokens : List Token)
    → AreTokens file names text tokens
    → AllByRecursion (λ token. token.place.file ≡ file) tokens × AllByRecursion (HasItsNumber names) tokens

-- the spelling of a reserved word or a mark is read as it
abbrev pub SpellingsAreReadBack : Type 0
SpellingsAreReadBack =
    (k : Kind) → spelling_of k ≢ [] → IsReading (spelling_of k) (lexeme (fixed k) ∷ []) [] complete
