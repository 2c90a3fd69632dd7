-- Lists of numbers of which a part changes.
use Rattle.std.specs.Prelude.{◌≡◌, ◌≢◌, ◌⊎◌, ◌+◌, ◌-◌, ◌/◌, ◌<◌, ◌≤◌, ℕ, List, length, get_or, IsBitSet}

-- the number of m is one greater where m has the property, and the same elsewhere
pub record IsRaised (P : ℕ → Type 0) (m old new : ℕ) : Type 0 where
  pub raised : P m → new ≡ old + 1
  pub same : (P m → ⊥) → new ≡ old

-- one less, and the same elsewhere
pub record IsLowered (P : ℕ → Type 0) (m old new : ℕ) : Type 0 where
  pub lowered : P m → new + 1 ≡ old
  pub same : (P m → ⊥) → new ≡ old

-- the bit of m is set in the word whose lowest bit is that of the given number
abbrev pub IsMarked : ℕ → ℕ → ℕ → Type 0
IsMarked word first m = IsBitSet word (m - first)

-- the entries of the part changed as the relation says, and the others are as before
pub record AreChanged (R : ℕ → ℕ → ℕ → Type 0) (old new : List ℕ) (first end : ℕ) : Type 0 where
  pub inside : (m : ℕ) → first ≤ m → m < end → R m (get_or old m 0) (get_or new m 0)
  pub outside : (m : ℕ) → (m < first) ⊎ (end ≤ m) → get_or new m 0 ≡ get_or old m 0

-- the entries whose bits stand in the word of that place changed as the relation says, and the others are as before
pub record AreWordChanged (R : ℕ → ℕ → ℕ → Type 0) (old new : List ℕ) (place : ℕ) : Type 0 where
  pub inside : (m : ℕ) → m < length old → m / 64 ≡ place → R m (get_or old m 0) (get_or new m 0)
  pub outside : (m : ℕ) → m / 64 ≢ place → get_or new m 0 ≡ get_or old m 0
