-- What of the order is known in a scenario that is still being read.
use Rattle.std.specs.Prelude.{◌≡◌, ◌≢◌, ℕ}
use Rattle.pst_scen.specs.declared.act.Link.{Link}
use Rattle.pst_scen.specs.declared.act.Link.TheVariants as link
use Rattle.pst_scen.specs.declared.scenario.Scenario.{Scenario}
use Rattle.pst_scen.specs.Flows.{Feeds, Reads, Writes, LeadsTo}
use Rattle.pst_scen.specs.Order.{Before, Together}
use Rattle.pst_legal.specs.ValueReading.{Answer, Options, Dead, Whole}

-- Why a comes before b, by links that are read. (Two references to a pool that aren't linked yet needn't have one object.)
pub data CauseSoFar (s : Scenario) (a b : ℕ) : Type 0 where
  -- an earlier statement of a sequence
  Sequence : Before s a b → CauseSoFar s a b
  -- b consumes a buffer that a produces
  Buffer : Feeds s a b → CauseSoFar s a b
  -- b reads the state object that a wrote
  Source : (pool : ℕ) (link : Link) → Reads s b pool link → LeadsTo link a → CauseSoFar s a b
  -- b is the next writer of the state pool
  Previous : (pool : ℕ) (link : Link) → Writes s b pool link → LeadsTo link a → CauseSoFar s a b
  -- a reads the object that b replaces
  Replaced : (pool : ℕ) (to : Link) → to ≢ link.Nothing → Reads s a pool to → Writes s b pool to → CauseSoFar s a b

abbrev pub DirectSoFar : Scenario → ℕ → ℕ → Type 0
DirectSoFar s a b = (a ≢ b) × CauseSoFar s a b

-- a must come before b, by links that are read
pub data MustSoFar (s : Scenario) : ℕ → ℕ → Type 0 where
  Directly : (a x b : ℕ) → DirectSoFar s a x → Together s b x → MustSoFar s a b
  Through : (a c b : ℕ) → MustSoFar s a c → MustSoFar s c b → MustSoFar s a b

-- the scenario so far, or the one that is read whole
abbrev pub HasRead : Answer → Scenario → Type 0
HasRead (Options s n) t = s ≡ t
HasRead Dead t = ⊥
HasRead (Whole s) t = s ≡ t
