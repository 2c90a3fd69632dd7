-- What a book keeps, and what its two commands look at.
use Rattle.std.specs.Prelude.{◌≡◌, ℕ, ◌<◌, ◌≤◌, List, ◌++◌, length, get_or, Contains}
use Rattle.pst_scen.specs.declared.scenario.Scenario.{Scenario}
use Rattle.pst_scen.specs.declared.event.Event.{Event}
use Rattle.pst_scen.specs.Trace.{Started, Ended, Runs, IsHeld, starts_of}
use Rattle.pst_scen.specs.Rows.{Has}
use Rattle.pst_scen.specs.Plan.{Entries, members}
use Rattle.pst_scen.specs.Core.{IsStartable, Opens}

-- a book is seen as its scenario, plan and number of lanes, and its trace
pub record View : Type 0 where
  pub scenario : Scenario
  pub plan : Entries
  pub lanes : ℕ
  pub trace : List Event

-- the book with this trace
abbrev pub with_trace : View → List Event → View
with_trace book trace = record { scenario = book.scenario; plan = book.plan; lanes = book.lanes; trace = trace }

-- no group is startable
abbrev pub IsShut : View → Type 0
IsShut book = (members : List ℕ) → IsStartable book.scenario book.lanes book.trace members → ⊥

-- The least startable group started on the least idle lanes; its events stand from that place on.
pub record DidOpen (old new : View) (first count : ℕ) : Type 0 where
  pub members : List ℕ
  pub used : List ℕ
  pub opens : Opens old.scenario old.lanes old.trace members used
  pub new_is : new ≡ with_trace old (old.trace ++ starts_of members used)
  pub first_is : first ≡ length old.trace
  pub count_is : count ≡ length members

-- The action hasn't started, what must come before it has ended, and it conflicts with nothing
-- that runs.
pub record MayJoin (p : Entries) (trace : List Event) (a : ℕ) : Type 0 where
  pub fresh : Started trace a → ⊥
  pub awaited : (b : ℕ) → b < length p.groups → Has p.must b a → Ended trace b
  pub clear : (b : ℕ) → b < length p.groups → Runs trace b → Has p.conflict b a → ⊥

abbrev pub AllMayJoin : Entries → List Event → ℕ → Type 0
AllMayJoin p trace group = (a : ℕ) → a < length p.groups → get_or p.groups a 0 ≡ group → MayJoin p trace a

-- the lanes from one number to another that no running action holds, ascending
pub record AreIdle (trace : List Event) (from lanes : ℕ) (idle : List ℕ) : Type 0 where
  pub ascending : (i j : ℕ) → i < j → j < length idle → get_or idle i 0 < get_or idle j 0
  pub above : (l : ℕ) → Contains idle l → from ≤ l
  pub below : (l : ℕ) → Contains idle l → l < lanes
  pub free : (l : ℕ) → Contains idle l → IsHeld trace l → ⊥
  pub all : (l : ℕ) → from ≤ l → l < lanes → (IsHeld trace l → ⊥) → Contains idle l

-- so many lanes are idle
pub record AreSoMany (trace : List Event) (lanes count : ℕ) : Type 0 where
  pub idle : List ℕ
  pub are : AreIdle trace 0 lanes idle
  pub count_is : length idle ≡ count

-- the group of that number can start
pub record CanStart (p : Entries) (lanes : ℕ) (trace : List Event) (group : ℕ) : Type 0 where
  pub number : get_or p.groups group 0 ≡ group
  pub join : AllMayJoin p trace group
  pub count : ℕ
  pub idle : AreSoMany trace lanes count
  pub room : length (members p.groups group) ≤ count

-- and none of a less number can
pub record StartsFirst (p : Entries) (lanes : ℕ) (trace : List Event) (group : ℕ) : Type 0 where
  pub below : group < length p.groups
  pub can : CanStart p lanes trace group
  pub first : (other : ℕ) → other < group → CanStart p lanes trace other → ⊥

abbrev pub NoneStarts : Entries → ℕ → List Event → Type 0
NoneStarts p lanes trace = (group : ℕ) → group < length p.groups → CanStart p lanes trace group → ⊥

-- the members started on idle lanes
pub record AreStarted (old new : List Event) (started : List ℕ) (lanes : ℕ) : Type 0 where
  pub idle : List ℕ
  pub are : AreIdle old 0 lanes idle
  pub new_is : new ≡ old ++ starts_of started idle
