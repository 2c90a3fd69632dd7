-- Names numbered in the order in which they first stand, and the own table of a text.
use Rattle.std.specs.Prelude.{◌≡◌, ◌≢◌, ℕ, suc, ◌<◌, ◌⊎◌, List, [], ◌∷◌, length}
use Rattle.pst_base.specs.Names.{AreDifferent}
use Rattle.pst_token.specs.declared.kind.Kind.TheVariants as kind
use Rattle.pst_token.specs.declared.token.Token.{Token}
use Rattle.pst_token.specs.Tokens.{AreTokens}

-- where `free` is the least number that no name has, a name has a lower number or takes this one; another token takes none
pub data Numbers (free : ℕ) (token : Token) : ℕ → Type 0 where
  Other : token.kind ≢ kind.Name → Numbers free token free
  Known : token.kind ≡ kind.Name → token.name.0 < free → Numbers free token free
  New : token.kind ≡ kind.Name → token.name.0 ≡ free → Numbers free token (suc free)

-- the same of each token in turn
abbrev pub AreNumbered : ℕ → List Token → ℕ → Type 0
AreNumbered free [] next = next ≡ free
AreNumbered free (token ∷ tokens) next = (middle : ℕ) × Numbers free token middle × AreNumbered middle tokens next

-- whatever number was free before the first tokens, these and those behind them are numbered in turn, if the first ones are
abbrev pub StayNumbered : List Token → ℕ → List Token → ℕ → Type 0
StayNumbered tokens next more free = (first : ℕ) → AreNumbered first tokens next → AreNumbered first more free

-- the tokens of a text, and its own table: the table has the names of the text alone, in the order in which they first stand
pub record AreOwnTokens (file : ℕ) (text : List ℕ) (names : List (List ℕ)) (tokens : List Token) : Type 0 where
  pub are : AreTokens file names text tokens
  pub different : AreDifferent names
  pub numbered : AreNumbered 0 tokens (length names)

-- a text has one own table, and in it one list of tokens
abbrev pub OwnTokensAreOne : Type 0
OwnTokensAreOne =
    (file : ℕ) (text : List ℕ) (names others : List (List ℕ)) (tokens more : List Token)
    → AreOwnTokens file text names tokens → AreOwnTokens file text others more → (names ≡ others) × (tokens ≡ more)
