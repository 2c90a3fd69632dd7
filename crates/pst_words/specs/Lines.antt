-- Which words are a line, and which word of the others is wrong.
use Rattle.std.specs.Prelude.{◌≡◌, ◌⊎◌, ℕ, ◌+◌, ◌^◌, ◌<◌, ◌≤◌, nat_lt, nat_eq, List, [], ◌∷◌, ◌++◌, length, take, drop, Bool, true, false, not, ◌&&◌, IsTrue, decimal, All, Contains, Option, Some, None, if◌then◌else◌}
use Rattle.std.specs.List.{list_any, list_all, count_by, starts_with}
use Rattle.pst_words.specs.declared.command.Command.{Command}
use Rattle.pst_words.specs.declared.command.Lines.{Lines}
use Rattle.pst_words.specs.declared.key.Key.{Key}
use Rattle.pst_words.specs.declared.key.Key.TheVariants.{Count, First}
use Rattle.pst_words.specs.Table.{command_text, is_served, needed, optional, fewest_files, most_files, key_start, IsValue}

-- ---- words behind the command

-- not empty, and without `=`
abbrev pub is_file : List ℕ → Bool
is_file word = nat_lt 0 (length word) && not (list_any (λ b. nat_eq b 61) word)

-- a key that the command has, with a right value, or a file
pub data IsArgument (command : Command) (have : ℕ) (word : List ℕ) : Type 0 where
  AKey : (key : Key) (text : List ℕ) → Contains (needed command ++ optional command) key → word ≡ key_start key ++ text → IsValue have key text → IsArgument command have word
  AFile : IsTrue (is_file word) → IsArgument command have word

-- the word gives the key a value
abbrev pub is_of : Key → List ℕ → Bool
is_of key word = starts_with nat_eq word (key_start key)

-- how many words give the key a value
abbrev pub times : Key → List (List ℕ) → ℕ
times key words = count_by (is_of key) words

-- some word gives the key a value
abbrev pub is_given : List (List ℕ) → Key → Bool
is_given words key = list_any (is_of key) words

-- the value of the key, none where no word gives it one
abbrev pub given : Key → List (List ℕ) → Option (List ℕ)
given key [] = None
given key (word ∷ more) = if is_of key word then Some (drop (length (key_start key)) word) else given key more

-- the first seed and the count of seeds, where both are given: the seeds end at 2^64 - 1
abbrev pub AreSeeds : List (List ℕ) → Type 0
AreSeeds words = (first count : ℕ) → first < 2 ^ 64 → count < 2 ^ 64 → given First words ≡ Some (decimal first) → given Count words ≡ Some (decimal count) → first + count ≤ 2 ^ 64

-- ---- lines

-- what holds of the words behind the command of a line, however far they go
pub record AreArguments (command : Command) (have : ℕ) (words : List (List ℕ)) : Type 0 where
  pub each : All (IsArgument command have) words
  pub once : (key : Key) → times key words ≤ 1
  pub few_files : count_by is_file words ≤ most_files command
  pub seeds : AreSeeds words

-- a word that may stand behind these
pub record IsRightBehind (command : Command) (have : ℕ) (front : List (List ℕ)) (word : List ℕ) : Type 0 where
  pub argument : IsArgument command have word
  pub fresh : (key : Key) → is_of key word ≡ true → is_given front key ≡ false
  pub room : is_file word ≡ true → count_by is_file front < most_files command

-- the words behind the command of a line
pub record IsWhole (command : Command) (have : ℕ) (words : List (List ℕ)) : Type 0 where
  pub right : AreArguments command have words
  pub has_needed : IsTrue (list_all (is_given words) (needed command))
  pub enough_files : fewest_files command ≤ count_by is_file words

-- The words are a line of one of these commands, where so many lanes are there.
pub record IsLine (lines : Lines) (have : ℕ) (words : List (List ℕ)) (command : Command) (arguments : List (List ℕ)) : Type 0 where
  pub lanes : 0 < have
  pub served : IsTrue (is_served lines command)
  pub are : words ≡ command_text command ∷ arguments
  pub whole : IsWhole command have arguments

-- some line begins with the words
pub record BeginsLine (lines : Lines) (have : ℕ) (words : List (List ℕ)) : Type 0 where
  pub more : List (List ℕ)
  pub command : Command
  pub arguments : List (List ℕ)
  pub line : IsLine lines have (words ++ more) command arguments

abbrev pub IsNoLine : Lines → ℕ → List (List ℕ) → Type 0
IsNoLine lines have words = (command : Command) (arguments : List (List ℕ)) → IsLine lines have words command arguments → ⊥

-- The first word such that no line begins with the words up to it, or the number of words where something is missing.
pub record IsWrongWord (lines : Lines) (have : ℕ) (words : List (List ℕ)) (wrong : ℕ) : Type 0 where
  pub earlier : (k : ℕ) → k < wrong → BeginsLine lines have (take (k + 1) words)
  pub here : ((wrong < length words) × (BeginsLine lines have (take (wrong + 1) words) → ⊥)) ⊎ ((wrong ≡ length words) × IsNoLine lines have words)
