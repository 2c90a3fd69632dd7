-- What a source takes from the references that may be sources.
use Rattle.std.specs.Prelude.{◌≡◌, ◌≤◌, ℕ, List, ◌++◌, length, drop, Bool, true, false, not, ◌&&◌, nat_eq, if◌then◌else◌, Option, Some, None}
use Rattle.std.specs.List.{insert, list_any}
use Rattle.pst_model.specs.ModelTree.{ModelTree}
use Rattle.pst_scen.specs.declared.act.Act.{Act}
use Rattle.pst_scen.specs.declared.act.Flow.{Flow}
use Rattle.pst_scen.specs.declared.act.Flow.TheVariants.{BufferIn, BufferOut, StreamIn, StreamOut, StateIn, StateOut}
use Rattle.pst_scen.specs.declared.act.Link.TheVariants as link
use Rattle.pst_legal.specs.SupplyReading.{Spot as Read, Source, Initially, From, New, spots, is_previous, put_link, linked_to}
use Rattle.pst_ties.specs.declared.tied.End.{End}
use Rattle.pst_ties.specs.Tieds.{same_end}
use Rattle.pst_pool_sources.specs.declared.sources.PoolSources.{PoolSources}
use Rattle.pst_pool_sources.specs.Offers.{end_of, free_ends, fitting_from, room_at, keeps, takes, AreSources}
use Rattle.pst_open_ends.specs.declared.spot.Spot.{Spot}
use Rattle.pst_open_ends.specs.declared.links.Change.{Change}
use Rattle.pst_open_ends.specs.Spots.{read_spot, spot_at}
use Rattle.pst_open_ends.specs.Options.{link_of}
use Rattle.pst_open_ends.specs.Changes.{ends_undone, undone, Supplies}
use Rattle.pst_free_ends.specs.declared.taken.Removed.{Removed}
use Rattle.pst_free_ends.specs.declared.taken.Taken.{Taken}

-- the references of a pool for needs of a kind, with the one that was taken out
abbrev pub restored : Option Removed → Flow → ℕ → List End → List End
restored None need pool ends = ends
restored (Some r) need pool ends = if takes need r.flow && nat_eq r.pool pool then insert ends r.place r.end else ends

-- whether a writer replaces the first object of a pool, without the one that took it
abbrev pub unbegun : Option ℕ → ℕ → Bool → Bool
unbegun None pool begun = begun
unbegun (Some p) pool begun = not (nat_eq p pool) && begun

-- ---- needs and their sources

abbrev pub near_of : Spot → End
near_of need = record { act = need.act; reference = need.reference }

-- the need is a reference of these actions that isn't linked
pub record IsTurn (need : Spot) (acts : List Act) : Type 0 where
  pub spot : Read
  pub is : spot_at acts (near_of need) ≡ Some spot
  pub among : list_any (λ s. same_end (near_of need) (end_of s)) (spots acts) ≡ true
  pub flow : spot.filled.flow ≡ need.flow
  pub pool : spot.filled.pool ≡ need.pool
  pub free : spot.filled.link ≡ link.Nothing

-- the reference that a source names, where there are so many actions; none for the first object
abbrev pub target_of : Source → ℕ → Option End
target_of Initially count = None
target_of (From b q) count = Some (record { act = b; reference = q })
target_of (New action instance q) count = Some (record { act = count; reference = q })

-- the kind of the other end of a stream
abbrev pub mate_of : Flow → Flow
mate_of StreamIn = StreamOut
mate_of StreamOut = StreamIn
mate_of BufferIn = BufferIn
mate_of BufferOut = BufferOut
mate_of StateIn = StateIn
mate_of StateOut = StateOut

-- the actions with the need linked to that
abbrev pub linked_by : Read → Option End → List Act → List Act
linked_by need None acts = put_link need.act need.reference link.Initial acts
linked_by need (Some end) acts = linked_to need end.act end.reference acts

-- no action that isn't there is the previous writer of another
abbrev pub NoneAhead : List Act → Type 0
NoneAhead acts = (pool : ℕ) (end : End) → length acts ≤ end.act → is_previous acts pool (link_of (Some end)) ≡ false

-- these actions are those before the change, with a need linked to its source
pub record IsStep (need : Spot) (source : Source) (change : Change) (acts : List Act) : Type 0 where
  pub model : ModelTree
  pub supplies : Supplies model (read_spot need) source change (undone change acts) acts
  pub turn : IsTurn need (undone change acts)
  pub ahead : NoneAhead (undone change acts)

-- ---- what is taken

-- the references that the last links took, before and after them
pub record Takes (taken : Taken) (old new : List Act) : Type 0 where
  pub ends : (need : Flow) (pool : ℕ) → free_ends need pool old ≡ restored taken.far need pool (restored taken.near need pool (free_ends need pool new))
  pub begun : (pool : ℕ) → is_previous old pool link.Initial ≡ unbegun taken.begun pool (is_previous new pool link.Initial)

-- the references are kept as these actions have them, once a need was linked
pub record Moved (sources : PoolSources) (taken : Taken) (old new : List Act) : Type 0 where
  pub are : AreSources sources new
  pub takes : Takes taken old new
  pub ahead : NoneAhead new

-- the same for a change, with the references of a new action, which stand last
pub record Follows (taken : Taken) (change : Change) (acts : List Act) : Type 0 where
  pub takes : Takes taken (ends_undone change.ends acts) acts
  pub more : (need : Flow) (pool : ℕ) → free_ends need pool (ends_undone change.ends acts) ≡ free_ends need pool (undone change acts) ++ fitting_from need pool change.count (drop change.count acts)
  pub begun : (pool : ℕ) → is_previous (ends_undone change.ends acts) pool link.Initial ≡ is_previous (undone change acts) pool link.Initial
  pub ahead : NoneAhead (undone change acts)

-- there is memory for the references before these actions were linked
abbrev pub HasRoom : PoolSources → List Act → Type 0
HasRoom sources acts = (need : Flow) (pool : ℕ) → keeps need ≡ true → length (free_ends need pool acts) ≤ room_at need pool sources
