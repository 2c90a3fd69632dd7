-- Legal traces: which block of events may come next, and what a whole run is.
use Rattle.std.specs.Prelude.{◌≡◌, ◌≢◌, ℕ, ◌<◌, List, [], ◌∷◌, ◌++◌, length, get_or, Bool, true, false, ◌&&◌, nat_eq, if◌then◌else◌, Option, Some, None, slice_get, Contains}
use Rattle.std.specs.List.{list_any}
use Rattle.pst_scen.specs.declared.act.Act.{Act}
use Rattle.pst_scen.specs.declared.act.Flow.{Flow}
use Rattle.pst_scen.specs.declared.act.Flow.TheVariants.{BufferIn, BufferOut, StreamIn, StreamOut, StateIn, StateOut}
use Rattle.pst_scen.specs.declared.act.Link.{Link}
use Rattle.pst_scen.specs.declared.act.Link.TheVariants as link
use Rattle.pst_scen.specs.declared.scenario.Scenario.{Scenario}
use Rattle.pst_scen.specs.declared.event.Event.{Event}
use Rattle.pst_scen.specs.declared.event.Event.TheVariants.{Start, End}
use Rattle.pst_scen.specs.Flows.{Feeds, Reads, Writes}
use Rattle.pst_scen.specs.Order.{Before, Together}
use Rattle.pst_scen.specs.Conflicts.{Conflict}

-- the action starts on the lane
abbrev pub StartsOn : List Event → ℕ → ℕ → Type 0
StartsOn trace a lane = (more : Bool) × Contains trace (Start a lane more)

abbrev pub Started : List Event → ℕ → Type 0
Started trace a = (lane : ℕ) × StartsOn trace a lane

abbrev pub Ended : List Event → ℕ → Type 0
Ended trace a = Contains trace (End a)

abbrev pub Runs : List Event → ℕ → Type 0
Runs trace a = Started trace a × (Ended trace a → ⊥)

-- a running action holds the lane
abbrev pub IsHeld : List Event → ℕ → Type 0
IsHeld trace lane = (a : ℕ) × StartsOn trace a lane × (Ended trace a → ⊥)

abbrev pub is_state_output : Flow → Bool
is_state_output StateOut = true
is_state_output StateIn = false
is_state_output BufferIn = false
is_state_output BufferOut = false
is_state_output StreamIn = false
is_state_output StreamOut = false

-- whether an action, if it is there, writes the state pool
abbrev pub writes_pool : Option Act → ℕ → Bool
writes_pool None pool = false
writes_pool (Some act) pool = list_any (λ filled. is_state_output filled.flow && nat_eq filled.pool pool) act.references

-- the last writer of the pool that ended, if any
abbrev pub last_after : Scenario → ℕ → Option ℕ → Event → Option ℕ
last_after s pool last (Start a lane more) = last
last_after s pool last (End a) = if writes_pool (slice_get s.actions a) pool then Some a else last

abbrev pub last_from : Scenario → ℕ → Option ℕ → List Event → Option ℕ
last_from s pool last [] = last
last_from s pool last (e ∷ es) = last_from s pool (last_after s pool last e) es

abbrev pub last_writer : Scenario → ℕ → List Event → Option ℕ
last_writer s pool trace = last_from s pool None trace

-- the link names that writer, or the pool's first object where there is none
abbrev pub Names : Link → Option ℕ → Type 0
Names link.Nothing last = ⊥
Names link.Initial last = last ≡ None
Names (link.Act a reference) last = last ≡ Some a

-- one whole group, ascending
pub record IsWholeGroup (s : Scenario) (members : List ℕ) : Type 0 where
  pub some : 0 < length members
  pub ascending : (i j : ℕ) → i < j → j < length members → get_or members i 0 < get_or members j 0
  pub inside : (a : ℕ) → Contains members a → a < length s.actions
  pub one : (a b : ℕ) → Contains members a → Contains members b → Together s a b
  pub whole : (a b : ℕ) → Contains members a → Together s a b → Contains members b

-- a lane for each member, different, below the number of lanes and held by no running action
pub record AreFree (lanes : ℕ) (trace : List Event) (members used : List ℕ) : Type 0 where
  pub many : length used ≡ length members
  pub different : (i j : ℕ) → i < j → j < length used → get_or used i 0 ≢ get_or used j 0
  pub below : (l : ℕ) → Contains used l → l < lanes
  pub idle : (l : ℕ) → Contains used l → IsHeld trace l → ⊥

-- The members may start together on the lanes.
pub record MayStart (s : Scenario) (lanes : ℕ) (trace : List Event) (members used : List ℕ) : Type 0 where
  pub group : IsWholeGroup s members
  pub fresh : (a : ℕ) → Contains members a → Started trace a → ⊥
  pub free : AreFree lanes trace members used
  -- each earlier statement has ended
  pub sequence : (a b : ℕ) → Contains members b → Before s a b → Ended trace a
  -- each producer of a consumed buffer has ended
  pub buffer : (a b : ℕ) → Contains members b → Feeds s a b → Ended trace a
  -- the last writer that ended is the source of each state input
  pub source : (b pool : ℕ) (link : Link) → Contains members b → Reads s b pool link → Names link (last_writer s pool trace)
  -- and the previous writer of each state output
  pub previous : (b pool : ℕ) (link : Link) → Contains members b → Writes s b pool link → Names link (last_writer s pool trace)
  -- nothing that runs is in conflict with a member
  pub clear : (a b : ℕ) → Runs trace a → Contains members b → Conflict s a b → ⊥
  -- nor are two members
  pub apart : (a b : ℕ) → Contains members a → Contains members b → Conflict s a b → ⊥

pub data Block : Type 0 where
  Starts : (members used : List ℕ) → Block
  Ends : (a : ℕ) → Block

-- the block may come next
abbrev pub MayCome : Scenario → ℕ → List Event → Block → Type 0
MayCome s lanes trace (Starts members used) = MayStart s lanes trace members used
MayCome s lanes trace (Ends a) = Runs trace a

-- a start for each member and its lane, each but the last with more behind it
abbrev pub starts_of : List ℕ → List ℕ → List Event
starts_of [] lanes = []
starts_of (a ∷ more) [] = []
starts_of (a ∷ []) (l ∷ ls) = Start a l false ∷ []
starts_of (a ∷ b ∷ more) (l ∷ ls) = Start a l true ∷ starts_of (b ∷ more) ls

abbrev pub events_of : Block → List Event
events_of (Starts members used) = starts_of members used
events_of (Ends a) = End a ∷ []

-- the events of blocks, of which the latest stands first
abbrev pub events : List Block → List Event
events [] = []
events (block ∷ older) = events older ++ events_of block

-- blocks, the latest first, each of which may come after those before it
abbrev pub AreLegal : Scenario → ℕ → List Block → Type 0
AreLegal s lanes [] = Unit {0}
AreLegal s lanes (block ∷ older) = AreLegal s lanes older × MayCome s lanes (events older) block

-- a legal trace on that many lanes
pub record IsLegalTrace (s : Scenario) (lanes : ℕ) (trace : List Event) : Type 0 where
  pub blocks : List Block
  pub are : events blocks ≡ trace
  pub legal : AreLegal s lanes blocks

-- every action has ended
abbrev pub IsWhole : Scenario → List Event → Type 0
IsWhole s trace = (a : ℕ) → a < length s.actions → Ended trace a

-- the trace, cut between blocks, begins a whole legal trace
pub record Prefix (s : Scenario) (lanes : ℕ) (trace : List Event) : Type 0 where
  pub blocks : List Block
  pub more : List Block
  pub are : events blocks ≡ trace
  pub legal : AreLegal s lanes (more ++ blocks)
  pub whole : IsWhole s (events (more ++ blocks))
