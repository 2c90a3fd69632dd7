-- Handles that activities one behind another traverse exactly once.
use Rattle.std.specs.Prelude.{◌≡◌, ◌<◌, ◌≤◌, ℕ, Bool, true, nat_eq, ◌&&◌, List, Option, Some, slice_get}
use Rattle.std.specs.HashMap.{HashMap, get}
use Rattle.pst_base.specs.declared.table.NameId.{NameId}
use Rattle.pst_traversals.specs.declared.tally.TallyKey.{TallyKey}
use Rattle.pst_traversals.specs.Tallied.{same_key}
use Rattle.pst_steady.specs.declared.runs.RunKey.{RunKey}
use Rattle.pst_steady.specs.Lined.{is_once}

abbrev pub run_key : ℕ → NameId → RunKey
run_key at handle = record { at = at; handle = handle.0 }

-- whether two keys are one
abbrev pub same_run : RunKey → RunKey → Bool
same_run a b = nat_eq a.at b.at && nat_eq a.handle b.handle

-- the activity of a number traverses the handle exactly once
abbrev pub IsOnceAt : {S : Type 0} → HashMap TallyKey Bool S → List (Option ℕ) → NameId → ℕ → Type 0
IsOnceAt tallies slots handle at = (action : ℕ) × (slice_get slots at ≡ Some (Some action)) × (is_once (get same_key tallies (record { action = action; handle = handle.0 })) ≡ true)

-- each from a first one to an end does
abbrev pub AreOnce : {S : Type 0} → HashMap TallyKey Bool S → List (Option ℕ) → NameId → ℕ → ℕ → Type 0
AreOnce tallies slots handle first end = (at : ℕ) → first ≤ at → at < end → IsOnceAt tallies slots handle at

-- where an end is kept for a number and a handle, those from that number to the end do
abbrev pub AreRuns : {S T : Type 0} → HashMap TallyKey Bool S → List (Option ℕ) → HashMap RunKey ℕ T → Type 0
AreRuns tallies slots runs = (at : ℕ) (handle : NameId) (end : ℕ) → get same_run runs (run_key at handle) ≡ Some end → AreOnce tallies slots handle at end
