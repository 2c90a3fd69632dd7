-- References in order, and the place of one among them.
use Rattle.std.specs.Prelude.{◌≡◌, ◌<◌, ◌≤◌, ℕ, List, length, get_or, Bool, false, ◌&&◌, ◌||◌, nat_eq, nat_lt, Option, Some, None}
use Rattle.pst_ties.specs.declared.tied.End.{End}
use Rattle.pst_ties.specs.Tieds.{same_end}

-- by action and reference
abbrev pub is_before : End → End → Bool
is_before a b = nat_lt a.act b.act || (nat_eq a.act b.act && nat_lt a.reference b.reference)

abbrev pub Before : End → End → Type 0
Before a b = (a.act ≤ b.act) × (a.act ≡ b.act → a.reference < b.reference)

-- each of the references stands before those behind it
abbrev pub AreRising : List End → Type 0
AreRising ends = (j k : ℕ) (d : End) → j < k → k < length ends → Before (get_or ends j d) (get_or ends k d)

-- the reference stands at that place alone, or at none
abbrev pub IsPlace : List End → End → Option ℕ → Type 0
IsPlace ends end None = (k : ℕ) (d : End) → k < length ends → same_end end (get_or ends k d) ≡ false
IsPlace ends end (Some place) = (k : ℕ) (d : End) → k < length ends → same_end end (get_or ends k d) ≡ nat_eq place k
