-- The blocks of a trace, the earliest first.
use Rattle.std.specs.Prelude.{◌≡◌, ◌≤◌, ◌<◌, ◌+◌, ℕ, List, [], ◌∷◌, ◌++◌, Bool, false, if◌then◌else◌, length, map, take, drop}
use Rattle.pst_scen.specs.declared.event.Event.{Event}
use Rattle.pst_scen.specs.declared.event.Event.TheVariants.{Start, End}
use Rattle.pst_scen.specs.Trace.{Block, Starts, Ends, events_of}
use Rattle.pst_scen.specs.Judging.{IsBlock}

abbrev pub act_of : Event → ℕ
act_of (Start a lane more) = a
act_of (End a) = a

-- the lane of a start
abbrev pub lane_of : Event → ℕ
lane_of (Start a lane more) = lane
lane_of (End a) = 0

-- whether the next event belongs to the same block
abbrev pub goes_on : Event → Bool
goes_on (Start a lane more) = more
goes_on (End a) = false

-- the starts of these actions on these lanes
abbrev pub starts_in : List Event → Block
starts_in part = Starts (map act_of part) (map lane_of part)

-- the block that events are: one end, or starts
abbrev pub block_of : List Event → Block
block_of [] = Starts [] []
block_of (Start a lane more ∷ rest) = starts_in (Start a lane more ∷ rest)
block_of (End a ∷ rest) = Ends a

-- the number of events of the first block
abbrev pub block_length : List Event → ℕ
block_length [] = 0
block_length (event ∷ rest) = if goes_on event then block_length rest + 1 else 1

-- the events of blocks, of which the earliest stands first
abbrev pub onward : List Block → List Event
onward [] = []
onward (block ∷ later) = events_of block ++ onward later

abbrev pub AreBlocks : List Block → Type 0
AreBlocks [] = Unit {0}
AreBlocks (block ∷ others) = IsBlock block × AreBlocks others

-- the events are those of one block
pub record IsOneBlock (part : List Event) : Type 0 where
  pub is : IsBlock (block_of part)
  pub are : events_of (block_of part) ≡ part

-- the events are those of blocks
pub record AreOnward (events : List Event) : Type 0 where
  pub blocks : List Block
  pub are : onward blocks ≡ events
  pub each : AreBlocks blocks

-- so many events are the first block, and the others are blocks too
pub record IsFirstBlock (events : List Event) (count : ℕ) : Type 0 where
  pub some : 0 < count
  pub inside : count ≤ length events
  pub one : IsOneBlock (take count events)
  pub rest : AreOnward (drop count events)
