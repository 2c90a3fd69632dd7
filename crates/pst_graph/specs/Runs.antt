-- Lists of uses in which those of one instance or one state pool stand together.
use Rattle.std.specs.Prelude.{◌≡◌, ◌⊎◌, ◌≤◌, ◌<◌, ◌+◌, ◌*◌, ℕ, List, Bool, true, false, cond, length, get_or}
use Rattle.pst_graph.specs.declared.uses.Use.{Use}
use Rattle.pst_square.specs.Marks.{IsMarked}

-- what is read past the end of a list
abbrev pub no_use : Use
no_use = record { act = 0; state = false; pool = 0; instance = 0; alone = false }

abbrev pub use_at : List Use → ℕ → Use
use_at uses i = get_or uses i no_use

-- both are of one resource instance or one state pool
pub record AreTogether (u v : Use) : Type 0 where
  pub state : u.state ≡ v.state
  pub pool : u.pool ≡ v.pool
  pub instance : u.instance ≡ v.instance

-- the place of a use among those of its pool
abbrev pub rank_in_pool : Use → ℕ
rank_in_pool u = u.instance * 2 + cond u.state 1 0

-- the first stands before the second: its pool is earlier, or that is the same and its place in that is earlier
abbrev pub Precedes : Use → Use → Type 0
Precedes u v = (u.pool < v.pool) ⊎ ((u.pool ≡ v.pool) × (rank_in_pool u < rank_in_pool v))

-- the next use of each is of the same instance or state pool, or behind it
abbrev pub Ascend : List Use → Type 0
Ascend uses = (i : ℕ) → i + 1 < length uses → AreTogether (use_at uses i) (use_at uses (i + 1)) ⊎ Precedes (use_at uses i) (use_at uses (i + 1))

-- The uses from one place to another are those of one instance or state pool.
pub record IsRun (uses : List Use) (from to : ℕ) : Type 0 where
  pub within : to ≤ length uses
  pub same : (i : ℕ) → from ≤ i → i < to → AreTogether (use_at uses from) (use_at uses i)
  pub all : (j : ℕ) → j < length uses → AreTogether (use_at uses from) (use_at uses j) → (from ≤ j) × (j < to)

-- the uses before a place precede those from there on
abbrev pub AreBefore : List Use → ℕ → Type 0
AreBefore uses from = (i j : ℕ) → i < from → from ≤ j → j < length uses → Precedes (use_at uses i) (use_at uses j)

-- a use of the run, one that excludes every other where only such are asked for, is by the action
pub record IsActOf (uses : List Use) (from to : ℕ) (lone : Bool) (act : ℕ) : Type 0 where
  pub place : ℕ
  pub low : from ≤ place
  pub high : place < to
  pub of_act : (use_at uses place).act ≡ act
  pub counts : (lone ≡ false) ⊎ ((use_at uses place).alone ≡ true)

-- the set has the actions of the run's uses, or only of those that exclude every other
abbrev pub MarksRun : List ℕ → List Use → ℕ → ℕ → Bool → Type 0
MarksRun marks uses from to lone = (d : ℕ) → (IsMarked marks d → IsActOf uses from to lone d) × (IsActOf uses from to lone d → IsMarked marks d)
