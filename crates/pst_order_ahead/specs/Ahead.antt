-- What links that are read say of every legal scenario ahead of them.
-- That writers of a state pool stand in one chain, each replacing the object of the one before, is the standard's rule.
use Rattle.std.specs.Prelude.{◌≢◌, ◌⊎◌, ◌<◌, ℕ, length}
use Rattle.pst_scen.specs.declared.act.Link.{Link}
use Rattle.pst_scen.specs.declared.act.Link.TheVariants as link
use Rattle.pst_scen.specs.declared.scenario.Scenario.{Scenario}
use Rattle.pst_scen.specs.Flows.{Reads, Writes}
use Rattle.pst_scen.specs.Order.{Together}
use Rattle.pst_scen.specs.Conflicts.{Conflict}
use Rattle.pst_scen.specs.Plans.{StandParallel}
use Rattle.pst_built.specs.SoFar.{DirectSoFar}

-- a reads or replaces the object of the state pool that the link names
abbrev pub Takes : Scenario → ℕ → ℕ → Link → Type 0
Takes s a pool to = Reads s a pool to ⊎ Writes s a pool to

-- a must come before b in every legal scenario ahead
pub data MustAhead (s : Scenario) : ℕ → ℕ → Type 0 where
  -- by a cause that is read
  Directly : (a b : ℕ) → DirectSoFar s a b → MustAhead s a b
  -- b starts with x
  Grouped : (a x b : ℕ) → MustAhead s a x → Together s b x → MustAhead s a b
  Through : (a c b : ℕ) → MustAhead s a c → MustAhead s c b → MustAhead s a b
  -- a reads or replaces the first object: every writer but itself comes after it
  AfterFirst : (a b pool : ℕ) (to : Link) → a ≢ b → Takes s a pool link.Initial → Writes s b pool to → MustAhead s a b
  -- c reads or replaces b's object: a writer that comes before c comes before b, unless it is b
  BeforeSource : (a b c pool reference : ℕ) (to : Link) → a ≢ b → Takes s c pool (link.Act b reference) → Writes s a pool to → MustAhead s a c → MustAhead s a b
  -- a reads or replaces c's object: a writer that comes after c comes after a, unless it is a
  AfterTaker : (a b c pool reference : ℕ) (to : Link) → a ≢ b → Takes s a pool (link.Act c reference) → Writes s b pool to → MustAhead s c b → MustAhead s a b

-- why no legal scenario is ahead
pub data IsRefusedAhead (s : Scenario) : Type 0 where
  -- an action must come before itself
  Cycle : (a : ℕ) → a < length s.actions → MustAhead s a a → IsRefusedAhead s
  -- two actions that start together conflict
  GroupClash : (a b : ℕ) → Together s a b → Conflict s a b → IsRefusedAhead s
  -- one action must come before another in a different branch of a parallel block
  ParallelOrder : (a b : ℕ) → StandParallel s a b → MustAhead s a b → IsRefusedAhead s
  -- two actions in different branches of a parallel block conflict: they use one state pool, and one of them writes it, or they
  -- contend for an instance
  ParallelClash : (a b : ℕ) → StandParallel s a b → Conflict s a b → IsRefusedAhead s
