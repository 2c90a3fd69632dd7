-- What the pass over the ranges of the earlier asks says.
use Rattle.std.specs.Prelude.{◌≡◌, ◌⊎◌, ℕ, ◌+◌, ◌%◌, ◌^◌, ◌<◌, ◌≤◌, List, length, get_or, Some, slice_get, All, Contains}
use Rattle.std.specs.List.Sorted.{IsNonDecreasingBy}
use Rattle.pst_scen.specs.Plan.{Entries}
use Rattle.pst_addr.specs.declared.ask.Ask.{Ask}
use Rattle.pst_addr.specs.declared.ask.Space.{Space}
use Rattle.pst_addr.specs.declared.ask.Range.{Range}
use Rattle.pst_addr.specs.Places.{Meet, IsLeast}

-- a multiple of the alignment from the address on
abbrev pub IsMultipleFrom : ℕ → ℕ → ℕ → Type 0
IsMultipleFrom address align multiple = (address ≤ multiple) × (multiple % align ≡ 0)

-- ---- ranges

-- the ask's bytes from the address on
abbrev pub range_of : Ask → ℕ → Range
range_of ask address = record { low = address; high = address + ask.size; action = ask.action }

-- the bytes of one of the asks that have a place
pub record IsRangeOf (asks : List Ask) (places : List ℕ) (range : Range) : Type 0 where
  pub number : ℕ
  pub below : number < length places
  pub ask : Ask
  pub is : slice_get asks number ≡ Some ask
  pub range_is : range ≡ range_of ask (get_or places number 0)

-- in the order of their first bytes
abbrev pub AreSorted : List Range → Type 0
AreSorted ranges = IsNonDecreasingBy (λ (range : Range). range.low) ranges

-- an ask that has no place meets the action
pub record IsMetLater (p : Entries) (asks : List Ask) (places : List ℕ) (action : ℕ) : Type 0 where
  pub number : ℕ
  pub behind : length places ≤ number
  pub ask : Ask
  pub is : slice_get asks number ≡ Some ask
  pub meets : Meet p ask.action action

-- the bytes of asks that have a place, in that order: all that an ask without one meets
pub record AreRangesOf (p : Entries) (asks : List Ask) (places : List ℕ) (ranges : List Range) : Type 0 where
  pub each : (k : ℕ) (ask : Ask) → k < length places → slice_get asks k ≡ Some ask → IsMetLater p asks places ask.action → Contains ranges (range_of ask (get_or places k 0))
  pub only : All (IsRangeOf asks places) ranges
  pub sorted : AreSorted ranges

-- a range that begins at the address goes there
pub record IsInsertion (ranges : List Range) (address at : ℕ) : Type 0 where
  pub inside : at ≤ length ranges
  pub before : (k : ℕ) (d : Range) → k < at → (get_or ranges k d).low ≤ address
  pub behind : (k : ℕ) (d : Range) → at ≤ k → k < length ranges → address ≤ (get_or ranges k d).low

-- ---- an address among ranges

-- as `Fits`, of ranges
pub record FitsAmong (p : Entries) (space : Space) (ranges : List Range) (ask : Ask) (address : ℕ) : Type 0 where
  pub aligned : address % ask.align ≡ 0
  pub above : space.base ≤ address
  pub inside : address + ask.size ≤ space.base + space.size
  pub clear : All (λ (range : Range). Meet p ask.action range.action → (address + ask.size ≤ range.low) ⊎ (range.high ≤ address)) ranges

-- The ask's bytes that would stand at the address stay where the range isn't in their way. Else they go on at the next aligned
-- address behind it,
pub data IsPast (p : Entries) (ask : Ask) (address : ℕ) (range : Range) : ℕ → Type 0 where
  Stays : (Meet p ask.action range.action → range.high ≤ address) → IsPast p ask address range address
  Moves : (next : ℕ) → Meet p ask.action range.action → address < range.high → IsLeast (IsMultipleFrom range.high ask.align) next → IsPast p ask address range next

-- which may take more than 64 bits.
pub record NothingIsPast (p : Entries) (ask : Ask) (address : ℕ) (range : Range) : Type 0 where
  pub meets : Meet p ask.action range.action
  pub before : address < range.high
  pub none : (other : ℕ) → IsMultipleFrom range.high ask.align other → 2 ^ 64 ≤ other

-- Where the pass stands behind the first ranges, as many as that: those of them that meet the ask end before the address, and
-- whatever fits isn't below it.
pub record IsReached (p : Entries) (space : Space) (ranges : List Range) (ask : Ask) (count address : ℕ) : Type 0 where
  pub aligned : address % ask.align ≡ 0
  pub above : space.base ≤ address
  pub passed : (k : ℕ) (d : Range) → k < count → Meet p ask.action (get_or ranges k d).action → (get_or ranges k d).high ≤ address
  pub least : (other : ℕ) → FitsAmong p space ranges ask other → address ≤ other
