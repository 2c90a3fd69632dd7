-- What a worker gives back, and rows of what workers were given and gave back.
use Rattle.std.specs.Prelude.{◌≡◌, ℕ, ◌+◌, ◌<◌, List, [], ◌∷◌, ◌++◌, length, slice_index_or, Bool, true, Option, None, Some}
use Rattle.atomic_table.specs.Seated.{TableId}
use Rattle.pst_model.specs.ModelTree.{ModelTree}
use Rattle.pst_scen.specs.declared.scenario.Scenario.{Scenario}
use Rattle.pst_post.specs.Seats.{LaneState}
use Rattle.pst_workers.specs.declared.worker.Broken.{Broken}
use Rattle.pst_workers.specs.Told.{Told, LaneRan, LaneBroke}

-- The lane's new calls are the whole runs of the actions that its seat handed back, in order. Where a body didn't end, its action
-- is the last that was fetched, it wasn't handed back, and its calls stand behind.
abbrev pub HasRun : ModelTree → Scenario → LaneState → Option Broken → Told → Told → Type 0
HasRun m s seat None before after = LaneRan m s seat.finished before after
HasRun m s seat (Some broken) before after = (seat.fetched ≡ seat.finished ++ broken.action ∷ []) × LaneBroke m s seat.finished broken before after

-- where a body didn't end, the desk was stopped
abbrev pub HasStopped : Option Broken → Bool → Type 0
HasStopped None stopped = Unit {0}
HasStopped (Some broken) stopped = stopped ≡ true

-- What a worker gives back: what its lane told before and tells now, its seat, the body that didn't end, and whether the desk was stopped when it left.
pub record Worked (m : ModelTree) (s : Scenario) (table : TableId) (lane : ℕ) (before after : Told) (seat : LaneState) (stop : Option Broken) (stopped : Bool) : Type 0 where
  pub table_is : seat.table ≡ table
  pub lane_is : seat.lane ≡ lane
  pub run : HasRun m s seat stop before after
  pub left : HasStopped stop stopped

module _ {M C : Type 0} (fits : ℕ → M → C → Type 0) where
  -- the last of the first n lanes has the first of these, and so on down
  abbrev pub Backwards : ℕ → List C → List M → Type 0
  Backwards n cs ms = (j k : ℕ) (d : C) (e : M) → j < length cs → j + k + 1 ≡ n → fits k (slice_index_or ms k e) (slice_index_or cs j d)

  -- the first lane has the first of these, and so on up
  abbrev pub Forwards : List C → List M → Type 0
  Forwards cs ms = (k : ℕ) (d : C) (e : M) → k < length cs → fits k (slice_index_or ms k e) (slice_index_or cs k d)

  -- the lanes from the n-th on have these
  abbrev pub Onwards : ℕ → List C → List M → Type 0
  Onwards n cs ms = (j k : ℕ) (d : C) (e : M) → j < length cs → k ≡ n + j → fits k (slice_index_or ms k e) (slice_index_or cs j d)
