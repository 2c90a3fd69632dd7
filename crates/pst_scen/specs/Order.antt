-- Which actions start together, and which must come before which.
-- Sequences, buffers, streams and states order actions as the standard says; that stream partners
-- start in one block is this project's own.
use Rattle.std.specs.Prelude.{◌≢◌, ℕ}
use Rattle.pst_scen.specs.declared.act.Link.{Link}
use Rattle.pst_scen.specs.declared.scenario.Scenario.{Scenario}
use Rattle.pst_scen.specs.Tree.{StandsEarlier, IsReleased}
use Rattle.pst_scen.specs.Flows.{Feeds, Streams, Reads, Writes, LeadsTo}

-- a stands in an earlier statement of a sequence than b, and isn't released in that sequence
pub record Before (s : Scenario) (a b : ℕ) : Type 0 where
  pub sequence : ℕ
  pub earlier : StandsEarlier s.nodes sequence a b
  pub awaited : IsReleased s.nodes sequence a → ⊥

-- the actions that stream links join to a: its group
pub data Together (s : Scenario) (a : ℕ) : ℕ → Type 0 where
  Itself : Together s a a
  Linked : (b c : ℕ) → Together s a b → Streams s b c → Together s a c

-- why a comes before b
pub data Cause (s : Scenario) (a b : ℕ) : Type 0 where
  -- an earlier statement of a sequence
  Sequence : Before s a b → Cause s a b
  -- b consumes a buffer that a produces
  Buffer : Feeds s a b → Cause s a b
  -- b reads the state object that a wrote
  Source : (pool : ℕ) (link : Link) → Reads s b pool link → LeadsTo link a → Cause s a b
  -- b is the next writer of the state pool
  Previous : (pool : ℕ) (link : Link) → Writes s b pool link → LeadsTo link a → Cause s a b
  -- a reads the object that b replaces
  Replaced : (pool : ℕ) (link : Link) → Reads s a pool link → Writes s b pool link → Cause s a b

abbrev pub Direct : Scenario → ℕ → ℕ → Type 0
Direct s a b = (a ≢ b) × Cause s a b

-- a ends before b starts, because of one cause on b's group or of a chain of them
pub data Must (s : Scenario) : ℕ → ℕ → Type 0 where
  Directly : (a x b : ℕ) → Direct s a x → Together s b x → Must s a b
  Through : (a c b : ℕ) → Must s a c → Must s c b → Must s a b
