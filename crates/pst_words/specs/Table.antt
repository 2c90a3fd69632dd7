-- The commands and keys.
use Rattle.std.specs.Prelude.{◌≡◌, ℕ, ◌*◌, ◌^◌, ◌-◌, ◌<◌, ◌≤◌, nat_lt, if◌then◌else◌, List, [], ◌∷◌, ◌++◌, length, Bool, true, false, codes, decimal}
use Rattle.pst_token.specs.Lexemes.{IsName}
use Rattle.pst_words.specs.declared.command.Command.{Command}
use Rattle.pst_words.specs.declared.command.Command.TheVariants.{Run, Solve, Check, Gen, Static, Place, Sweep}
use Rattle.pst_words.specs.declared.command.Lines.{Lines}
use Rattle.pst_words.specs.declared.command.Lines.TheVariants as lines
use Rattle.pst_words.specs.declared.key.Key.{Key}
use Rattle.pst_words.specs.declared.key.Key.TheVariants.{Root, Trace, Seed, Infer, Budget, Lanes, Size, Over, Space, Base, Count, First}

-- ---- commands

abbrev pub command_text : Command → List ℕ
command_text Run = codes "run"
command_text Solve = codes "solve"
command_text Check = codes "check"
command_text Gen = codes "gen"
command_text Static = codes "static"
command_text Place = codes "place"
command_text Sweep = codes "sweep"

abbrev pub is_served : Lines → Command → Bool
is_served lines.All command = true
is_served lines.WithoutSweep Sweep = false
is_served lines.WithoutSweep _ = true
is_served lines.SweepAlone Sweep = true
is_served lines.SweepAlone _ = false

-- the keys that a line of the command must have
abbrev pub needed : Command → List Key
needed Check = Root ∷ Trace ∷ []
needed Gen = Size ∷ []
needed Place = Root ∷ Space ∷ []
needed Sweep = Root ∷ Count ∷ []
needed _ = Root ∷ []

-- the keys that it may have beside
abbrev pub optional : Command → List Key
optional Run = Seed ∷ Infer ∷ Budget ∷ Lanes ∷ []
optional Solve = Seed ∷ Infer ∷ Budget ∷ []
optional Check = Seed ∷ Infer ∷ Budget ∷ []
optional Gen = Seed ∷ Lanes ∷ []
optional Static = Seed ∷ Infer ∷ Budget ∷ Over ∷ []
optional Place = Base ∷ Seed ∷ Infer ∷ Budget ∷ []
optional Sweep = First ∷ Infer ∷ Budget ∷ []

-- the fewest and the most files of a line
abbrev pub fewest_files : Command → ℕ
fewest_files Gen = 0
fewest_files _ = 1

abbrev pub most_files : Command → ℕ
most_files Gen = 0
most_files _ = 16

-- ---- keys

abbrev pub key_text : Key → List ℕ
key_text Root = codes "root"
key_text Trace = codes "trace"
key_text Seed = codes "seed"
key_text Infer = codes "infer"
key_text Budget = codes "budget"
key_text Lanes = codes "lanes"
key_text Size = codes "size"
key_text Over = codes "over"
key_text Space = codes "space"
key_text Base = codes "base"
key_text Count = codes "count"
key_text First = codes "first"

-- a key and its `=`
abbrev pub key_start : Key → List ℕ
key_start key = key_text key ++ codes "="

-- ---- values, where so many lanes are there

-- the decimal spelling of a number from the least to the most: no sign, and no leading zero
pub record IsNumber (least most : ℕ) (text : List ℕ) : Type 0 where
  pub number : ℕ
  pub spelled : text ≡ decimal number
  pub low : least ≤ number
  pub high : number ≤ most

-- C::A
pub record IsRoot (text : List ℕ) : Type 0 where
  pub component : List ℕ
  pub action : List ℕ
  pub are : text ≡ component ++ (codes "::" ++ action)
  pub component_is_name : IsName component
  pub action_is_name : IsName action

-- a multiple of 8
pub record IsSize (text : List ℕ) : Type 0 where
  pub eighth : ℕ
  pub spelled : text ≡ decimal (eighth * 8)
  pub low : 1 ≤ eighth
  pub high : eighth ≤ 512

abbrev pub least_of : Key → ℕ
least_of Seed = 0
least_of Infer = 0
least_of Base = 0
least_of First = 0
least_of _ = 1

abbrev pub most_of : ℕ → Key → ℕ
most_of have Seed = 2 ^ 64 - 1
most_of have First = 2 ^ 64 - 1
most_of have Infer = 8
most_of have Budget = 1000000000
most_of have Over = 16
most_of have Space = 2 ^ 62
most_of have Base = 2 ^ 62
most_of have Count = 4096
most_of have Lanes = if nat_lt have 16 then have else 16
most_of have _ = 0

abbrev pub IsValue : ℕ → Key → List ℕ → Type 0
IsValue have Root text = IsRoot text
IsValue have Trace text = 0 < length text
IsValue have Size text = IsSize text
IsValue have key text = IsNumber (least_of key) (most_of have key) text
