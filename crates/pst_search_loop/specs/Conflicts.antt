-- Which places a conflict names.
use Rattle.std.specs.Prelude.{◌≡◌, ℕ, ◌<◌, ◌⊎◌, List, [], ◌∷◌, true}
use Rattle.pst_search_loop.specs.declared.conflict.Conflict.{Conflict}

abbrev pub IsAmong : List ℕ → ℕ → Type 0
IsAmong [] p = ⊥
IsAmong (x ∷ xs) p = (p ≡ x) ⊎ IsAmong xs p

-- the place is one of them
abbrev pub Has : Conflict → ℕ → Type 0
Has c p = (p < c.below) ⊎ IsAmong c.places.items p

-- all places before one, on one level
pub record IsEarlier (c : Conflict) (below : ℕ) : Type 0 where
  pub has : (p : ℕ) → p < below → Has c p
  pub within : (p : ℕ) → Has c p → p < below
  pub on_level : c.on_level ≡ true

-- one conflict with those of some places that are before one
pub record AreAdded (a : Conflict) (places : List ℕ) (at : ℕ) (r : Conflict) : Type 0 where
  pub own : (p : ℕ) → Has a p → Has r p
  pub added : (p : ℕ) → p < at → IsAmong places p → Has r p
  pub within : (p : ℕ) → Has r p → (p < at) ⊎ Has a p
  pub level : a.on_level ≡ r.on_level

-- what two conflicts have before a place
pub record IsJoined (a b : Conflict) (at : ℕ) (r : Conflict) : Type 0 where
  pub own : (p : ℕ) → p < at → Has a p → Has r p
  pub other : (p : ℕ) → p < at → Has b p → Has r p
  pub within : (p : ℕ) → Has r p → (p < at) ⊎ Has a p
  pub own_level : a.on_level ≡ true → r.on_level ≡ true
  pub other_level : b.on_level ≡ true → r.on_level ≡ true
