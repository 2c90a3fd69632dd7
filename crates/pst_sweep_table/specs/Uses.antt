-- Types with their counts.
use Rattle.std.specs.Prelude.{◌≡◌, ℕ, zero, suc, ◌<◌, ◌≤◌, List, [], ◌∷◌, ◌++◌, length, get_or, nat_eq, if◌then◌else◌, All}
use Rattle.std.specs.List.Sorted.{IsNonDecreasingBy}
use Rattle.pst_sweep_table.specs.declared.uses.Use.{Use}

-- the count of a type, 0 where it isn't there
abbrev pub used_in : List Use → ℕ → ℕ
used_in [] type = 0
used_in (one ∷ more) type = if nat_eq type one.action then one.count else used_in more type

abbrev pub AreAscending : List Use → Type 0
AreAscending used = IsNonDecreasingBy (λ (one : Use). one.action) used

-- the types from that place on are those from this one on
pub record IsFirstFrom (used : List Use) (type at : ℕ) : Type 0 where
  pub inside : at ≤ length used
  pub before : (k : ℕ) (d : Use) → k < at → (get_or used k d).action < type
  pub behind : (k : ℕ) (d : Use) → at ≤ k → k < length used → type ≤ (get_or used k d).action

-- one more type, where it has an action
abbrev pub with_use : List Use → ℕ → ℕ → List Use
with_use used type zero = used
with_use used type (suc n) = used ++ record { action = type; count = suc n } ∷ []

-- the types below that one which have an action, by the table of counts
pub record AreUses (counts : List ℕ) (types : ℕ) (used : List Use) : Type 0 where
  pub ascending : AreAscending used
  pub below : All (λ (one : Use). one.action < types) used
  pub each : (type : ℕ) → type < types → used_in used type ≡ get_or counts type 0
