-- How links that are read join references.
use Rattle.std.specs.Prelude.{◌≡◌, ◌≢◌, ℕ, List, true, false, Some}
use Rattle.pst_scen.specs.declared.act.Act.{Act}
use Rattle.pst_scen.specs.declared.act.Filled.{Filled}
use Rattle.pst_scen.specs.declared.act.Flow.TheVariants.{StateOut}
use Rattle.pst_scen.specs.declared.act.Link.TheVariants as link
use Rattle.pst_scen.specs.Scenarios.{reference_at}
use Rattle.pst_legal.specs.Supplied.{is_need, IsSource}
use Rattle.pst_legal.specs.SupplyReading.{is_state, is_stream}

-- Links join open ends of one pool. A link to a reference leads to one of another action, in the same pool, that may be the
-- source; the ends of a stream name each other; an object of a state pool is replaced by one output at most; uses of states alone
-- have a pool's first object; and what wants no source has no link.
pub record JoinOpenEnds (acts : List Act) : Type 0 where
  pub sources : (a r b q : ℕ) (filled : Filled) → reference_at acts a r ≡ Some filled → filled.link ≡ link.Act b q → IsSource acts a filled b q
  pub streams : (a r b q : ℕ) (one other : Filled) → reference_at acts a r ≡ Some one → is_stream one.flow ≡ true → one.link ≡ link.Act b q → reference_at acts b q ≡ Some other
      → other.link ≡ link.Act a r
  pub once : (a r b q : ℕ) (one other : Filled) → reference_at acts a r ≡ Some one → reference_at acts b q ≡ Some other
      → one.flow ≡ StateOut → other.flow ≡ StateOut → one.pool ≡ other.pool → one.link ≡ other.link → one.link ≢ link.Nothing → (a ≡ b) × (r ≡ q)
  pub first : (a r : ℕ) (filled : Filled) → reference_at acts a r ≡ Some filled → filled.link ≡ link.Initial → is_state filled.flow ≡ true
  pub needless : (a r : ℕ) (filled : Filled) → reference_at acts a r ≡ Some filled → is_need filled.flow ≡ false → filled.link ≡ link.Nothing
