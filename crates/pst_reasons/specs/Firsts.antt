-- Where variables were changed first along a trail.
use Rattle.std.specs.Prelude.{◌≡◌, ℕ, ◌<◌, ◌≤◌, List, length, get_or}
use Rattle.pst_narrow.specs.declared.trail.Former.{Former}

abbrev pub first_at : List ℕ → ℕ → ℕ
first_at firsts v = get_or firsts v 0

-- no variable was changed before the place at which it was changed first
abbrev pub AreFirsts : List ℕ → List Former → Type 0
AreFirsts firsts trail = (i : ℕ) (d : Former) → i < length trail → first_at firsts (get_or trail i d).variable ≤ i

abbrev pub AreNoLater : List ℕ → List ℕ → Type 0
AreNoLater old new = (v : ℕ) → first_at new v ≤ first_at old v

-- the changes from a mark on are noted
pub record AreNoted (trail : List Former) (mark : ℕ) (old new : List ℕ) : Type 0 where
  pub no_later : AreNoLater old new
  pub noted : (i : ℕ) (d : Former) → mark ≤ i → i < length trail → first_at new (get_or trail i d).variable ≤ i

-- first changes before a mark are as they were
abbrev pub AreForgotten : ℕ → List ℕ → List ℕ → Type 0
AreForgotten mark old new = (v : ℕ) → first_at old v < mark → first_at new v ≡ first_at old v
