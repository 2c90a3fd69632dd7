-- Which actions can't run at one time.
-- That a lock excludes every other claim of its instance, and a writer of a state pool every other
-- use of it, is the standard's rule.
use Rattle.std.specs.Prelude.{◌≡◌, ◌≢◌, ℕ, Bool, true, ◌⊎◌}
use Rattle.pst_scen.specs.declared.act.Link.{Link}
use Rattle.pst_scen.specs.declared.scenario.Scenario.{Scenario}
use Rattle.pst_scen.specs.Flows.{Reads, Writes, Claims}

-- a uses the state pool
abbrev pub Uses : Scenario → ℕ → ℕ → Type 0
Uses s a pool = (link : Link) × (Reads s a pool link ⊎ Writes s a pool link)

pub data Clash (s : Scenario) (a b : ℕ) : Type 0 where
  -- both claim one instance of one resource pool, and at least one by lock
  Resource : (pool instance : ℕ) (own other : Bool) → Claims s a pool instance own → Claims s b pool instance other → (own ≡ true) ⊎ (other ≡ true) → Clash s a b
  -- both use one state pool, and the first writes it
  FirstWrites : (pool : ℕ) (link : Link) → Writes s a pool link → Uses s b pool → Clash s a b
  -- both use one state pool, and the second writes it
  SecondWrites : (pool : ℕ) (link : Link) → Uses s a pool → Writes s b pool link → Clash s a b

abbrev pub Conflict : Scenario → ℕ → ℕ → Type 0
Conflict s a b = (a ≢ b) × Clash s a b
