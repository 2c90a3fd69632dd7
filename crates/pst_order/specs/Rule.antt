-- Histories in which each block follows the rule of the core.
use Rattle.std.specs.Prelude.{◌≡◌, ◌≢◌, ℕ, ◌+◌, List, [], ◌∷◌, Contains}
use Rattle.pst_scen.specs.declared.act.Link.{Link}
use Rattle.pst_scen.specs.declared.scenario.Scenario.{Scenario}
use Rattle.pst_scen.specs.declared.event.Event.{Event}
use Rattle.pst_scen.specs.Flows.{Reads, Writes}
use Rattle.pst_scen.specs.Trace.{Runs, Ended, AreFree, Block, Starts, Ends, events}
use Rattle.pst_scen.specs.Core.{IsReady, Opens, Command, Open, Close}

-- a group starts that is ready, on as many idle lanes, or a running action ends
abbrev pub FollowsRule : Scenario → ℕ → List Event → Block → Type 0
FollowsRule s lanes trace (Starts members used) = IsReady s trace members × AreFree lanes trace members used
FollowsRule s lanes trace (Ends a) = Runs trace a

-- each block follows the rule, the latest first
abbrev pub AreByRule : Scenario → ℕ → List Block → Type 0
AreByRule s lanes [] = Unit {0}
AreByRule s lanes (block ∷ older) = AreByRule s lanes older × FollowsRule s lanes (events older) block

-- the least startable group starts on the least idle lanes, or a running action ends
abbrev pub FollowsCore : Scenario → ℕ → List Event → Block → Type 0
FollowsCore s lanes trace (Starts members used) = Opens s lanes trace members used
FollowsCore s lanes trace (Ends a) = Runs trace a

-- each block is one that the core makes, the latest first
abbrev pub AreByCore : Scenario → ℕ → List Block → Type 0
AreByCore s lanes [] = Unit {0}
AreByCore s lanes (block ∷ older) = AreByCore s lanes older × FollowsCore s lanes (events older) block

-- how many commands open
abbrev pub open_count : List Command → ℕ
open_count [] = 0
open_count (Open ∷ more) = open_count more + 1
open_count (Close a ∷ more) = open_count more

-- how many commands end an action
abbrev pub close_count : List Command → ℕ
close_count [] = 0
close_count (Open ∷ more) = close_count more
close_count (Close a ∷ more) = close_count more + 1

-- a trace of blocks by the rule
pub record IsByRule (s : Scenario) (lanes : ℕ) (trace : List Event) : Type 0 where
  pub blocks : List Block
  pub are : events blocks ≡ trace
  pub rule : AreByRule s lanes blocks

-- a trace of blocks that the core makes
pub record IsByCore (s : Scenario) (lanes : ℕ) (trace : List Event) : Type 0 where
  pub blocks : List Block
  pub are : events blocks ≡ trace
  pub core : AreByCore s lanes blocks

-- Whoever reads an object that a member replaces has ended.
abbrev pub KeepsReaders : Scenario → List Event → Block → Type 0
KeepsReaders s trace (Starts members used) = (a b pool : ℕ) (link : Link) → Contains members b → a ≢ b → Reads s a pool link → Writes s b pool link → Ended trace a
KeepsReaders s trace (Ends a) = Unit {0}

-- each block keeps the readers, the latest first
abbrev pub AllKeepReaders : Scenario → List Block → Type 0
AllKeepReaders s [] = Unit {0}
AllKeepReaders s (block ∷ older) = AllKeepReaders s older × KeepsReaders s (events older) block
