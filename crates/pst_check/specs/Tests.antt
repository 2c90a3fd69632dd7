-- What the tests of a block of starts look for, by the places of lists.
use Rattle.std.specs.Prelude.{◌≡◌, ◌≢◌, ◌<◌, ◌⊎◌, ℕ, List, length, get_or, map, slice_get, Some}
use Rattle.pst_scen.specs.declared.act.Filled.{Filled}
use Rattle.pst_scen.specs.declared.act.Act.{Act}
use Rattle.pst_scen.specs.declared.act.Flow.TheVariants.{BufferIn, StateIn, StateOut}
use Rattle.pst_scen.specs.declared.act.Link.TheVariants as link
use Rattle.pst_scen.specs.declared.scenario.Scenario.{Scenario}
use Rattle.pst_scen.specs.declared.event.Event.{Event}
use Rattle.pst_scen.specs.declared.event.Event.TheVariants.{Start, End}
use Rattle.pst_scen.specs.Flows.{IsAct}
use Rattle.pst_scen.specs.Order.{Before}
use Rattle.pst_scen.specs.Trace.{Ended, Runs, Names, last_writer}
use Rattle.pst_scen.specs.Rows.{Has}
use Rattle.pst_scen.specs.Plan.{Entries, members}
use Rattle.pst_by_rule.specs.Blocks.{act_of, lane_of}

-- an element of the list has the property
pub record AtSome {X : Type 0} (xs : List X) (P : X → Type 0) : Type 0 where
  pub place : ℕ
  pub element : X
  pub is : slice_get xs place ≡ Some element
  pub has : P element

-- the event starts the action
abbrev pub StartsAct : ℕ → Event → Type 0
StartsAct a (Start b lane more) = b ≡ a
StartsAct a (End b) = ⊥

-- the event ends the action
abbrev pub EndsAct : ℕ → Event → Type 0
EndsAct a (Start b lane more) = ⊥
EndsAct a (End b) = b ≡ a

-- the event starts an action on the lane that hasn't ended
abbrev pub HoldsLane : List Event → ℕ → Event → Type 0
HoldsLane past lane (Start a used more) = (used ≡ lane) × (Ended past a → ⊥)
HoldsLane past lane (End a) = ⊥

-- an event before that place names the lane
pub record NamesBefore (part : List Event) (place lane : ℕ) : Type 0 where
  pub first : ℕ
  pub event : Event
  pub order : first < place
  pub is : slice_get part first ≡ Some event
  pub same : lane_of event ≡ lane

-- two events name one lane
pub record NamesTwice (part : List Event) : Type 0 where
  pub second : ℕ
  pub event : Event
  pub is : slice_get part second ≡ Some event
  pub before : NamesBefore part second (lane_of event)

-- each event is of an action below the number
abbrev pub AreInside : ℕ → List Event → Type 0
AreInside count part = (place : ℕ) (event : Event) → slice_get part place ≡ Some event → act_of event < count

-- the event of that place is of the action
pub record IsActAt (part : List Event) (place a : ℕ) : Type 0 where
  pub below : place < length part
  pub is : get_or (map act_of part) place 0 ≡ a

-- the actions are the members of the first one's group
pub record AreGroup (p : Entries) (part : List Event) : Type 0 where
  pub below : get_or (map act_of part) 0 0 < length p.groups
  pub are : map act_of part ≡ members p.groups (get_or p.groups (get_or (map act_of part) 0 0) 0)

-- the action stands in an earlier statement than b, not released, and hasn't ended
pub record IsStatementOpen (s : Scenario) (past : List Event) (b a : ℕ) : Type 0 where
  pub before : Before s a b
  pub not_ended : Ended past a → ⊥

-- such an action is there
pub record HasStatementOpen (s : Scenario) (past : List Event) (b : ℕ) : Type 0 where
  pub act : ℕ
  pub below : act < length s.actions
  pub is : IsStatementOpen s past b act

-- the reference consumes a buffer whose producer hasn't ended
pub record HasProducerOpen (past : List Event) (filled : Filled) : Type 0 where
  pub act : ℕ
  pub reference : ℕ
  pub of_flow : filled.flow ≡ BufferIn
  pub linked : filled.link ≡ link.Act act reference
  pub not_ended : Ended past act → ⊥

-- the reference is to a state pool, and the last writer that ended isn't the one that its link names
pub record HasOtherWriter (s : Scenario) (past : List Event) (filled : Filled) : Type 0 where
  pub of_flow : (filled.flow ≡ StateIn) ⊎ (filled.flow ≡ StateOut)
  pub other : Names filled.link (last_writer s filled.pool past) → ⊥

-- the action runs and conflicts with b
pub record IsInTheWay (p : Entries) (past : List Event) (b a : ℕ) : Type 0 where
  pub conflict : Has p.conflict a b
  pub runs : Runs past a

-- such an action is there
pub record HasInTheWay (p : Entries) (past : List Event) (b : ℕ) : Type 0 where
  pub act : ℕ
  pub below : act < length p.groups
  pub is : IsInTheWay p past b act

-- the reference reads the object that the writer replaces
pub record IsReaderOf (writer reader : Filled) : Type 0 where
  pub of_flow : reader.flow ≡ StateIn
  pub of_pool : reader.pool ≡ writer.pool
  pub linked : reader.link ≡ writer.link

-- the action has a reference with the property
pub record HasReference (s : Scenario) (a : ℕ) (P : Filled → Type 0) : Type 0 where
  pub act : Act
  pub is_act : IsAct s a act
  pub some : AtSome act.references P

-- the action, another than b, reads the object that the reference replaces, and hasn't ended
pub record IsOpenReader (s : Scenario) (past : List Event) (b : ℕ) (writer : Filled) (a : ℕ) : Type 0 where
  pub different : a ≢ b
  pub reads : HasReference s a (IsReaderOf writer)
  pub not_ended : Ended past a → ⊥

-- the reference replaces an object that such an action reads
pub record HasReaderOpen (s : Scenario) (past : List Event) (b : ℕ) (writer : Filled) : Type 0 where
  pub of_flow : writer.flow ≡ StateOut
  pub act : ℕ
  pub below : act < length s.actions
  pub is : IsOpenReader s past b writer act
