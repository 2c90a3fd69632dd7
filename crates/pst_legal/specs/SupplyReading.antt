-- How the sources of needs are read: the second part of a list of choices.
use Rattle.std.specs.Prelude.{ℕ, ◌-◌, List, [], ◌∷◌, ◌++◌, length, map, Bool, true, false, not, ◌&&◌, ◌||◌, nat_eq, nat_lt, if◌then◌else◌, Option, Some, None, slice_get, flat_map}
use Rattle.std.specs.List.{enumerate_from, filter, find, list_any}
use Rattle.pst_model.specs.ModelTree.{ModelTree, ActionTree, ContentTree, Atomic, Compound}
use Rattle.pst_scen.specs.declared.act.Act.{Act}
use Rattle.pst_scen.specs.declared.act.Filled.{Filled}
use Rattle.pst_scen.specs.declared.act.Flow.{Flow}
use Rattle.pst_scen.specs.declared.act.Flow.TheVariants.{BufferIn, BufferOut, StreamIn, StreamOut, StateIn, StateOut}
use Rattle.pst_scen.specs.declared.act.Link.{Link}
use Rattle.pst_scen.specs.declared.act.Link.TheVariants as link
use Rattle.pst_scen.specs.declared.scenario.Scenario.{Scenario}
use Rattle.pst_legal.specs.Types.{action_instances}
use Rattle.pst_scen.specs.Scenarios.{leaves_of}
use Rattle.pst_legal.specs.Growing.{open_act, most_acts}
use Rattle.pst_legal.specs.Supplied.{is_need, is_source_for}
use Rattle.pst_legal.specs.Binds.{bounds_of, fixed_source}
use Rattle.pst_legal.specs.Reading.{Reading, Stops, Reads, Reader, read_seeded}

-- a reference of an action
pub record Spot : Type 0 where
  pub act : ℕ
  pub reference : ℕ
  pub filled : Filled

abbrev pub spots_in : ℕ × Act → List Spot
spots_in numbered = map (λ e. record { act = numbered.0; reference = e.0; filled = e.1 }) (enumerate_from 0 numbered.1.references)

-- all references, by action and reference
abbrev pub spots : List Act → List Spot
spots acts = flat_map spots_in (enumerate_from 0 acts)

abbrev pub same_link : Link → Link → Bool
same_link link.Nothing link.Nothing = true
same_link link.Initial link.Initial = true
same_link (link.Act a r) (link.Act b q) = nat_eq a b && nat_eq r q
same_link _ _ = false

abbrev pub is_open : Spot → Bool
is_open spot = same_link spot.filled.link link.Nothing

-- ---- whose turn it is

-- the reference that a bind fixes as the source of a need
abbrev pub fixed_for : ModelTree → Scenario → Spot → Option (ℕ × ℕ)
fixed_for m s spot = fixed_source (bounds_of m s.nodes) spot.act spot.reference spot.filled.flow

-- linked, but not as a bind fixes it
abbrev pub is_elsewhere : Option (ℕ × ℕ) → Spot → Bool
is_elsewhere None spot = false
is_elsewhere (Some source) spot = not (is_open spot) && not (same_link spot.filled.link (link.Act source.0 source.1))

-- A need whose source isn't read has a turn. One that was linked against its bind has a turn too, and is dead there.
abbrev pub has_turn : ModelTree → Scenario → Spot → Bool
has_turn m s spot = is_need spot.filled.flow && (is_open spot || is_elsewhere (fixed_for m s spot) spot)

abbrev pub next_need : ModelTree → Scenario → Option Spot
next_need m s = find (has_turn m s) (spots s.actions)

-- ---- the sources of a need, in order

pub data Source : Type 0 where
  -- the first object of the pool
  Initially : Source
  -- a reference of an action that is there
  From : (act reference : ℕ) → Source
  -- a reference of a new action
  New : (action instance reference : ℕ) → Source

abbrev pub is_state : Flow → Bool
is_state StateIn = true
is_state StateOut = true
is_state BufferIn = false
is_state BufferOut = false
is_state StreamIn = false
is_state StreamOut = false

abbrev pub is_writer : Flow → Bool
is_writer StateOut = true
is_writer StateIn = false
is_writer BufferIn = false
is_writer BufferOut = false
is_writer StreamIn = false
is_writer StreamOut = false

abbrev pub is_stream : Flow → Bool
is_stream StreamIn = true
is_stream StreamOut = true
is_stream BufferIn = false
is_stream BufferOut = false
is_stream StateIn = false
is_stream StateOut = false

-- some writer of the pool has that as its previous writer
abbrev pub is_previous : List Act → ℕ → Link → Bool
is_previous acts pool to = list_any (λ spot. is_writer spot.filled.flow && (nat_eq spot.filled.pool pool && same_link spot.filled.link to)) (spots acts)

-- the first object: for a writer only where no writer of the pool has it yet
abbrev pub initial_sources : List Act → Filled → List Source
initial_sources acts need =
    if is_state need.flow && not (is_writer need.flow && is_previous acts need.pool link.Initial) then Initially ∷ [] else []

-- a stream end must be free, and a previous writer mustn't be that of another
abbrev pub is_free : List Act → Filled → Spot → Bool
is_free acts need spot =
    if is_stream need.flow then is_open spot
    else not (is_writer need.flow && is_previous acts need.pool (link.Act spot.act spot.reference))

abbrev pub fits : Filled → Filled → Bool
fits need source = is_source_for need.flow source.flow && nat_eq source.pool need.pool

abbrev pub is_candidate : List Act → Spot → Spot → Bool
is_candidate acts need spot = not (nat_eq spot.act need.act) && (fits need.filled spot.filled && is_free acts need.filled spot)

abbrev pub source_of : Spot → Source
source_of spot = From spot.act spot.reference

abbrev pub old_sources : List Act → Spot → List Source
old_sources acts need = map source_of (filter (is_candidate acts need) (spots acts))

-- the references of a new action that fit
abbrev pub sources_in : ModelTree → Filled → ℕ → ℕ → List Source
sources_in m need action instance =
    map (λ e. New action instance e.0) (filter (λ e. fits need e.1) (enumerate_from 0 (open_act m action instance None).references))

abbrev pub is_inferable : ActionTree → ContentTree → Bool
is_inferable type (Atomic body) = not type.is_abstract
is_inferable type (Compound activity) = false

abbrev pub sources_of_type : ModelTree → Filled → ℕ × ActionTree → List Source
sources_of_type m need e =
    if is_inferable e.1 e.1.content then flat_map (sources_in m need e.0) (action_instances m (Some e.1) None) else []

-- how many actions are inferred so far
abbrev pub inferred : Scenario → ℕ
inferred s = length s.actions - length (leaves_of s.nodes)

abbrev pub may_infer : Scenario → Bool
may_infer s = nat_lt (inferred s) s.level && nat_lt (length s.actions) most_acts

-- each new action of an atomic type, by type, instance and reference
abbrev pub new_sources : ModelTree → Scenario → Filled → List Source
new_sources m s need = if may_infer s then flat_map (sources_of_type m need) (enumerate_from 0 m.actions) else []

abbrev pub free_sources : ModelTree → Scenario → Spot → List Source
free_sources m s need = initial_sources s.actions need.filled ++ (old_sources s.actions need ++ new_sources m s need.filled)

-- the reference that a bind fixes, where it may still be linked and lies in the same pool
abbrev pub fixed_sources : Scenario → Spot → ℕ × ℕ → List Source
fixed_sources s need source =
    if is_open need
    then map source_of (filter (λ spot. nat_eq spot.act source.0 && (nat_eq spot.reference source.1 && is_candidate s.actions need spot)) (spots s.actions))
    else []

abbrev pub sources_by : ModelTree → Scenario → Spot → Option (ℕ × ℕ) → List Source
sources_by m s need None = free_sources m s need
sources_by m s need (Some source) = fixed_sources s need source

abbrev pub sources : ModelTree → Scenario → Spot → List Source
sources m s need = sources_by m s need (fixed_for m s need)

-- ---- linking

-- the element of that number is changed
abbrev pub alter : {A : Type 0} → (A → A) → ℕ → List A → List A
alter f n xs = map (λ e. if nat_eq e.0 n then f e.1 else e.1) (enumerate_from 0 xs)

abbrev pub with_link : Link → Filled → Filled
with_link to filled = record filled { link = to }

abbrev pub act_with_link : ℕ → Link → Act → Act
act_with_link r to act = record act { references = alter (with_link to) r act.references }

abbrev pub put_link : ℕ → ℕ → Link → List Act → List Act
put_link a r to acts = alter (act_with_link r to) a acts

-- the need is linked to the reference, and with a stream the reference to the need
abbrev pub linked_to : Spot → ℕ → ℕ → List Act → List Act
linked_to need b q acts =
    if is_stream need.filled.flow
    then put_link b q (link.Act need.act need.reference) (put_link need.act need.reference (link.Act b q) acts)
    else put_link need.act need.reference (link.Act b q) acts

abbrev pub supplied_by : ModelTree → Scenario → Spot → Source → Scenario
supplied_by m s need Initially = record s { actions = put_link need.act need.reference link.Initial s.actions }
supplied_by m s need (From b q) = record s { actions = linked_to need b q s.actions }
supplied_by m s need (New action instance q) =
    record s { actions = linked_to need (length s.actions) q (s.actions ++ open_act m action instance None ∷ []) }

-- ---- reading

-- once no need has a turn, as many actions as the level says must be inferred
abbrev pub end_supply : Scenario → ℕ → List ℕ → Reading
end_supply s place left = if nat_eq (inferred s) s.level then Reads s place left else Stops

abbrev pub chosen : ModelTree → Spot → Option Source → Reader → Reader
chosen m need None go s place left = Stops
chosen m need (Some source) go s place left = go (supplied_by m s need source) place left

-- the place of a need, and then what follows
abbrev pub read_need : ModelTree → ℕ → Spot → Reader → Reader
read_need m seed need go s place left =
    read_seeded seed (length (sources m s need)) (λ k. chosen m need (slice_get (sources m s need) k) go) s place left

abbrev pub read_turn : ModelTree → ℕ → Option Spot → Reader → Reader
read_turn m seed None go s place left = end_supply s place left
read_turn m seed (Some need) go s place left = read_need m seed need go s place left

-- The needs in turn: those of new actions come as these are there.
abbrev pub read_supply : ModelTree → ℕ → Reader
read_supply m seed s place [] = read_turn m seed (next_need m s) (λ s place left. Stops) s place []
read_supply m seed s place (digit ∷ left) = read_turn m seed (next_need m s) (λ more next rest. read_supply m seed more next left) s place (digit ∷ left)
