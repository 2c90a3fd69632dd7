-- The state of a scanner: a text so far, and what was found in it.
use Rattle.std.specs.Prelude.{◌≡◌, ◌≢◌, ℕ, ◌+◌, ◌^◌, ◌<◌, ◌≤◌, ◌⊎◌, Bool, false, ℤ, List, [], ◌∷◌, ◌++◌, length, take, drop, slice_get, Option, Some, IsTrue}
use Rattle.pst_base.specs.declared.position.Place.{Place}
use Rattle.pst_token.specs.declared.kind.Kind.{Kind}
use Rattle.pst_token.specs.declared.token.Token.{Token}
use Rattle.pst_token.specs.Parts.{Part, text_of, BeginsWith}
use Rattle.pst_token.specs.Tokens.{place_after, lexemes_of, AreTokensOf, token_of}
use Rattle.pst_lexer.specs.declared.scan.Scanner.{Scanner}
use Rattle.pst_lexer.specs.Fault.{HasFault}
use Rattle.pst_lexer.specs.declared.fault.LexFault.{LexFault}
use Rattle.pst_lexer.specs.declared.fault.LexFault.TheVariants as fault
use Rattle.pst_lexer.specs.Finding.{MayFollow, is_open}

-- the bytes behind the parts that are settled
abbrev pub rest_of : Scanner → List ℕ
rest_of s = drop s.start s.taken.items

-- so many bytes of the text are parts, whatever may follow, and the tokens are theirs
pub record IsSettled (is_last : Bool) (names : List (List ℕ)) (file room : ℕ) (text : List ℕ) (tokens : List Token) (start : ℕ) (place : Place) : Type 0 where
  pub parts : List Part
  pub front : (more : List ℕ) → MayFollow is_last more → BeginsWith (text ++ more) parts (drop start text ++ more)
  pub reach : start ≡ length (text_of parts)
  pub within : start ≤ length text
  pub at : place ≡ place_after file (text_of parts)
  pub each : AreTokensOf names (lexemes_of file parts) tokens
  pub few : length tokens ≤ room

-- the same of a scanner, and what it knows of the part that isn't finished
pub record IsScanning (is_last : Bool) (names : List (List ℕ)) (s : Scanner) : Type 0 where
  pub settled : IsSettled is_last names s.file s.room s.taken.items s.tokens.items s.start s.place
  pub seen : s.seen ≤ length (rest_of s)
  pub open_so : IsTrue (is_open (take s.seen (rest_of s)))

-- places and names have their numbers
pub record IsSmall (s : Scanner) : Type 0 where
  pub room : s.room ≤ 2 ^ 20
  pub taken : length s.taken.items ≤ 2 ^ 31

-- the text is the same
pub record Keeps (old new : Scanner) : Type 0 where
  pub file : new.file ≡ old.file
  pub room : new.room ≡ old.room
  pub taken : new.taken ≡ old.taken

-- nothing was found
pub record Stays (old new : Scanner) : Type 0 where
  pub kept : Keeps old new
  pub tokens : new.tokens.items ≡ old.tokens.items
  pub start : new.start ≡ old.start
  pub seen : new.seen ≡ old.seen
  pub place : new.place ≡ old.place

-- the part of this length was settled
pub record Passes (old new : Scanner) (len : ℕ) (all : List Token) : Type 0 where
  pub kept : Keeps old new
  pub tokens : new.tokens.items ≡ all
  pub start : new.start ≡ old.start + len
  pub seen : new.seen ≡ 0
  pub place : (before : List ℕ) → old.place ≡ place_after old.file before → new.place ≡ place_after old.file (before ++ take len (rest_of old))

-- the fault is that of the text, whatever may follow
abbrev pub IsCertain : Bool → Scanner → LexFault → Type 0
IsCertain is_last s f = (more : List ℕ) → MayFollow is_last more → HasFault s.file s.room (s.taken.items ++ more) f

-- the part of this length was settled, with this token
pub record Adds (old new : Scanner) (len : ℕ) (kind : Kind) (id : ℕ) (value : ℤ) : Type 0 where
  pub room : length old.tokens.items < old.room
  pub passed : Passes old new len (old.tokens.items ++ token_of kind id value old.place ∷ [])

-- there was no room for a token, or no memory
abbrev pub IsRefused : Scanner → LexFault → Type 0
IsRefused old f = (f ≡ fault.NoMemory) ⊎ ((f ≡ fault.Many) × (old.room ≤ length old.tokens.items))

-- the text stands in the table under a number of which P holds
abbrev pub HasName : List (List ℕ) → List ℕ → (ℕ → Type 0) → Type 0
HasName names text P = (id : ℕ) × (slice_get names id ≡ Some text) × P id

-- a lexer's text isn't at its end, some table has the names of its tokens, and its fault is certain
pub record IsLexing (s : Scanner) (outcome : Option LexFault) : Type 0 where
  pub names : List (List ℕ)
  pub scanning : IsScanning false names s
  pub small : IsSmall s
  pub certain : (f : LexFault) → outcome ≡ Some f → f ≢ fault.NoMemory → IsCertain false s f
