-- Which scenarios have a source for every need.
-- Buffers, streams and states are the standard's; how missing sources are inferred is this project's own.
use Rattle.std.specs.Prelude.{◌≡◌, ◌≢◌, ℕ, ◌+◌, ◌<◌, max, List, [], ◌∷◌, length, map, Contains, Bool, true, false, Some, None, slice_get, flat_map}
use Rattle.std.specs.List.{enumerate_from, filter}
use Rattle.pst_model.specs.ModelTree.{ModelTree, ActionTree}
use Rattle.pst_scen.specs.declared.act.Act.{Act}
use Rattle.pst_scen.specs.declared.act.Filled.{Filled}
use Rattle.pst_scen.specs.declared.act.Flow.{Flow}
use Rattle.pst_scen.specs.declared.act.Flow.TheVariants.{BufferIn, BufferOut, StreamIn, StreamOut, StateIn, StateOut}
use Rattle.pst_scen.specs.declared.act.Link.{Link}
use Rattle.pst_scen.specs.declared.act.Link.TheVariants as link
use Rattle.pst_scen.specs.declared.scenario.Scenario.{Scenario}
use Rattle.pst_legal.specs.Types.{type_of, activity_in, action_instances}
use Rattle.pst_scen.specs.Scenarios.{reference_at, leaves_of}
use Rattle.pst_legal.specs.Binds.{bounds_of, fixed_source}

-- a reference that wants a source: each input, each state output (its previous writer) and each stream output (its consumer)
abbrev pub is_need : Flow → Bool
is_need BufferIn = true
is_need BufferOut = false
is_need StreamIn = true
is_need StreamOut = true
is_need StateIn = true
is_need StateOut = true

-- the second may be the source of the first: an output of an input and of a state output, an input of a stream output
abbrev pub is_source_for : Flow → Flow → Bool
is_source_for BufferIn BufferOut = true
is_source_for StreamIn StreamOut = true
is_source_for StreamOut StreamIn = true
is_source_for StateIn StateOut = true
is_source_for StateOut StateOut = true
is_source_for _ _ = false

-- The reference is one of another action in the same pool, so of the same object type too, and may be the source.
pub record IsSource (acts : List Act) (a : ℕ) (filled : Filled) (b q : ℕ) : Type 0 where
  pub other : b ≢ a
  pub source : Filled
  pub is : reference_at acts b q ≡ Some source
  pub fits : is_source_for filled.flow source.flow ≡ true
  pub pool : source.pool ≡ filled.pool

-- two state outputs of one pool have different previous writers, so the first object is that of at most one
abbrev pub ArePreviousOnce : List Act → Type 0
ArePreviousOnce acts =
    (a r b q : ℕ) (one other : Filled) → reference_at acts a r ≡ Some one → reference_at acts b q ≡ Some other
    → one.flow ≡ StateOut → other.flow ≡ StateOut → one.pool ≡ other.pool → one.link ≡ other.link → (a ≡ b) × (r ≡ q)

-- from the output the previous writers lead back to the pool's first object
pub data ComesFromFirst (acts : List Act) : ℕ → ℕ → Type 0 where
  AtFirst : (a r : ℕ) (filled : Filled) → reference_at acts a r ≡ Some filled → filled.link ≡ link.Initial → ComesFromFirst acts a r
  AfterWriter : (a r b q : ℕ) (filled : Filled) → reference_at acts a r ≡ Some filled → filled.link ≡ link.Act b q → ComesFromFirst acts b q → ComesFromFirst acts a r

-- an inferred action is of an atomic type that isn't abstract, in an instance of its component
pub record IsInferable (m : ModelTree) (act : Act) : Type 0 where
  pub type : ActionTree
  pub is : type_of m act.action ≡ Some type
  pub atomic : activity_in type.content ≡ None
  pub concrete : type.is_abstract ≡ false
  pub inside : Contains (action_instances m (Some type) None) act.instance

-- ---- the numbers of inferred actions

-- a need, by action and reference, with its link
pub record Linking : Type 0 where
  pub act : ℕ
  pub reference : ℕ
  pub link : Link

abbrev pub linkings_in : ℕ × Act → List Linking
linkings_in numbered =
    map (λ e. record { act = numbered.0; reference = e.0; link = e.1.link }) (filter (λ e. is_need e.1.flow) (enumerate_from 0 numbered.1.references))

-- the needs in order of action and reference
abbrev pub linkings : List Act → List Linking
linkings acts = flat_map linkings_in (enumerate_from 0 acts)

-- the link names none of the actions from this number on
abbrev pub NamesBelow : ℕ → Link → Type 0
NamesBelow n link.Nothing = Unit {0}
NamesBelow n link.Initial = Unit {0}
NamesBelow n (link.Act b q) = b < n

-- how many actions are named after a need, the leaves among them
abbrev pub named_after : ℕ → Link → ℕ
named_after n link.Nothing = n
named_after n link.Initial = n
named_after n (link.Act b q) = max n (b + 1)

-- Each need stands in an action that has been named, and names one that has been named or the one with the next number;
-- in the end so many are named.
abbrev pub AreNamedInTurn : List Linking → ℕ → ℕ → Type 0
AreNamedInTurn [] named total = named ≡ total
AreNamedInTurn (need ∷ needs) named total = (need.act < named) × NamesBelow (named + 1) need.link × AreNamedInTurn needs (named_after named need.link) total

-- ---- supplied scenarios

pub record Supplied (m : ModelTree) (s : Scenario) : Type 0 where
  pub sources : (a r b q : ℕ) (filled : Filled) → reference_at s.actions a r ≡ Some filled → filled.link ≡ link.Act b q → IsSource s.actions a filled b q
  pub previous : ArePreviousOnce s.actions
  pub chains : (a r : ℕ) (filled : Filled) → reference_at s.actions a r ≡ Some filled → filled.flow ≡ StateOut → ComesFromFirst s.actions a r
  pub bound : (a r b q : ℕ) (filled : Filled) → reference_at s.actions a r ≡ Some filled → fixed_source (bounds_of m s.nodes) a r filled.flow ≡ Some (b, q) → filled.link ≡ link.Act b q
  pub inferred : (a : ℕ) (act : Act) → slice_get s.actions a ≡ Some act → act.node ≡ None → IsInferable m act
  pub numbered : AreNamedInTurn (linkings s.actions) (length (leaves_of s.nodes)) (length s.actions)
