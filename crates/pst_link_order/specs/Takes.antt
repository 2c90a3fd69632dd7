-- Reads and writes of state pools whose source is linked, and all writes.
use Rattle.std.specs.Prelude.{◌≡◌, ◌≢◌, ◌⊎◌, ◌<◌, ℕ, length, true}
use Rattle.pst_scen.specs.declared.act.Filled.{Filled}
use Rattle.pst_scen.specs.declared.act.Link.{Link}
use Rattle.pst_scen.specs.declared.act.Link.TheVariants as link
use Rattle.pst_scen.specs.declared.scenario.Scenario.{Scenario}
use Rattle.pst_scen.specs.Flows.{Reads, Writes}
use Rattle.pst_order_ahead.specs.Ahead.{Takes, MustAhead}
use Rattle.pst_link_order.specs.declared.takes.Take.{Take}
use Rattle.pst_link_order.specs.declared.takes.Writer.{Writer}
use Rattle.pst_scen.specs.Plan.{Entries}
use Rattle.pst_scen.specs.Rows.{Has}
use Rattle.pst_link_order.specs.declared.implied.Pair.{Pair}

-- the action reads or replaces the object of the pool that the source names
pub record IsTake (s : Scenario) (take : Take) : Type 0 where
  pub below : take.act < length s.actions
  pub some : take.source ≢ link.Nothing
  pub takes : Takes s take.act take.pool take.source
  pub reads : take.reads ≡ true → Reads s take.act take.pool take.source

-- the action writes the pool
pub record IsWriter (s : Scenario) (writer : Writer) : Type 0 where
  pub below : writer.act < length s.actions
  pub writes : (to : Link) × Writes s writer.act writer.pool to

-- the first action must come before the second
pub record IsPair (s : Scenario) (pair : Pair) : Type 0 where
  pub below : pair.first < length s.actions
  pub different : pair.first ≢ pair.second
  pub must : MustAhead s pair.first pair.second

-- of another action than the writer, which reads or replaces the first object, or reads what the reference replaces
pub record ComesBefore (take : Take) (filled : Filled) (act : ℕ) : Type 0 where
  pub different : take.act ≢ act
  pub pool : take.pool ≡ filled.pool
  pub why : (take.source ≡ link.Initial) ⊎ ((take.reads ≡ true) × (take.source ≡ filled.link))

-- what the entries order must come in that order
pub record IsAheadBy (s : Scenario) (p : Entries) : Type 0 where
  pub many : length p.groups ≡ length s.actions
  pub must : (a b : ℕ) → a < length s.actions → b < length s.actions → Has p.must a b → MustAhead s a b
