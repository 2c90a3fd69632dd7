-- Tables by which actions are dealt out.
use Rattle.std.specs.Prelude.{◌≡◌, ◌≢◌, ◌⊎◌, ℕ, ◌<◌, ◌≤◌, List, ◌++◌, length, get_or, zip, Bool, true, false}
use Rattle.pst_scen.specs.Plan.{Entries, members}
use Rattle.pst_programs.specs.Lanes.{Dealt, load, AreFewest}

-- one lane's number is less than another's, or they are the same and the lane is less
abbrev pub Precedes : List ℕ → ℕ → ℕ → Type 0
Precedes loads l m = (get_or loads l 0 < get_or loads m 0) ⊎ ((get_or loads l 0 ≡ get_or loads m 0) × (l < m))

-- of the lanes below a bound that aren't used the first one, or a number that is no lane where all of them are
pub record IsFirstFree (loads : List ℕ) (used : List Bool) (bound lane : ℕ) : Type 0 where
  pub free : lane < length used → get_or used lane false ≡ false
  pub before : lane < length used → (l : ℕ) → l < bound → l ≢ lane → get_or used l false ≡ false → Precedes loads lane l
  pub none : length used ≤ lane → (l : ℕ) → l < bound → get_or used l false ≡ true

-- how many actions each lane has
pub record AreLoads (lanes : ℕ) (dealt : Dealt) (loads : List ℕ) : Type 0 where
  pub many : length loads ≡ lanes
  pub each : (l : ℕ) → l < lanes → get_or loads l 0 ≡ load dealt l

-- the members of the group got the lanes with the fewest actions
pub record IsDealtOut (p : Entries) (lanes group : ℕ) (old new : Dealt) : Type 0 where
  pub used : List ℕ
  pub fewest : AreFewest lanes old (length (members p.groups group)) used
  pub new_is : new ≡ old ++ zip (members p.groups group) used
