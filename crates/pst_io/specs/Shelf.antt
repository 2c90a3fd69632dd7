-- What a shelf of named files does when a file is opened and read.
use Rattle.std.specs.Prelude.{◌≡◌, ℕ, ◌-◌, ◌<◌, ◌≤◌, ◌↔◌, ◌++◌, List, [], length, take, drop, Option, Bool, is_some}
use Rattle.std.specs.Option.{ForSome, option_map}

-- the files of a shelf: the bytes of each name that there is a file of
abbrev pub Files : Type 0
Files = List ℕ → Option (List ℕ)

-- where the files are told, the answer is whether there is a file of this name
abbrev pub TellsWhether : Option Files → List ℕ → Bool → Type 0
TellsWhether files name found = ForSome files (λ bytes_of. found ≡ is_some (bytes_of name))

-- where the files are told, what is left to read is the whole file of this name
abbrev pub HasOpened : Option Files → List ℕ → Option (List ℕ) → Type 0
HasOpened files name rest = ForSome files (λ bytes_of. rest ≡ bytes_of name)

-- the first n bytes of what was left stand at the front of the piece, whose other bytes are as before;
-- n is 0 for a nonempty piece exactly where nothing was left
pub record MovesFront (left old new : List ℕ) (n : ℕ) : Type 0 where
  pub piece : new ≡ take n left ++ drop n old
  pub there : n ≤ length left
  pub end : 0 < length old → (n ≡ 0) ↔ (left ≡ [])

-- the bytes behind the old ones are the first of what was left, and what follows them is left now
pub record HasTaken (before after : Option (List ℕ)) (old new : List ℕ) : Type 0 where
  pub longer : length old ≤ length new
  pub taken : ForSome before (λ left. new ≡ old ++ take (length new - length old) left)
  pub there : ForSome before (λ left. length new - length old ≤ length left)
  pub rest : after ≡ option_map (drop (length new - length old)) before
