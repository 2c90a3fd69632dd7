-- The sources of a need, with what the program knows beside the actions: the bind of the need, and whether one more action
-- may be inferred.
use Rattle.std.specs.Prelude.{◌≡◌, ℕ, List, [], ◌∷◌, ◌++◌, map, Bool, true, false, not, ◌&&◌, nat_eq, if◌then◌else◌, Option, Some, None, flat_map}
use Rattle.std.specs.List.{enumerate_from, filter}
use Rattle.pst_base.specs.declared.table.NameId.{NameId}
use Rattle.pst_model.specs.declared.action.Reference.{Reference}
use Rattle.pst_model.specs.declared.model.Part.{Part}
use Rattle.pst_legal.specs.Types.{same_name}
use Rattle.pst_model.specs.ModelTree.{ModelTree}
use Rattle.pst_scen.specs.declared.act.Act.{Act}
use Rattle.pst_scen.specs.declared.act.Filled.{Filled}
use Rattle.pst_legal.specs.Growing.{open_reference}
use Rattle.pst_scen.specs.declared.act.Link.{Link}
use Rattle.pst_scen.specs.declared.act.Link.TheVariants as link
use Rattle.pst_ties.specs.declared.tied.End.{End}
use Rattle.pst_open_ends.specs.Spots.{spot_at}
use Rattle.pst_legal.specs.SupplyReading.{Spot, Source, Initially, From, New, same_link, is_writer, is_previous, spots, is_open, fits, is_candidate, source_of, initial_sources, old_sources, sources_of_type}

-- the first object, or a reference
abbrev pub link_of : Option End → Link
link_of None = link.Initial
link_of (Some end) = link.Act end.act end.reference

-- the reference has that link
abbrev pub has_link : Link → Option Spot → Bool
has_link to None = false
has_link to (Some spot) = same_link spot.filled.link to

-- the reference at an end has that link
abbrev pub links_from : List Act → Link → End → Bool
links_from acts to end = has_link to (spot_at acts end)

-- for a writer, that says whether the reference is the previous writer of another
abbrev pub IsKnown : List Act → Filled → End → Bool → Type 0
IsKnown acts need end taken = is_writer need.flow ≡ true → taken ≡ is_previous acts need.pool (link_of (Some end))

-- the reference, where it isn't one of that action
abbrev pub unless_own : ℕ → End → List Source
unless_own act end = if not (nat_eq end.act act) then From end.act end.reference ∷ [] else []

abbrev pub initially_if : Bool → List Source
initially_if b = if b then Initially ∷ [] else []

-- the reference, where it may be the source
abbrev pub source_at : List Act → Spot → Option Spot → List Source
source_at acts need None = []
source_at acts need (Some spot) = if is_candidate acts need spot then source_of spot ∷ [] else []

-- the sources among the actions that there are, of these references
abbrev pub old_among : List Act → Spot → List Spot → List Source
old_among acts need among = map source_of (filter (is_candidate acts need) among)

abbrev pub is_fixed : List Act → Spot → ℕ × ℕ → Spot → Bool
is_fixed acts need source spot = nat_eq spot.act source.0 && (nat_eq spot.reference source.1 && is_candidate acts need spot)

-- the source that a bind fixes, among these references
abbrev pub fixed_among : List Act → Spot → ℕ × ℕ → List Spot → List Source
fixed_among acts need source among = map source_of (filter (is_fixed acts need source) among)

-- the references of a new action that fit, from a number on
abbrev pub new_in : ModelTree → Filled → ℕ → ℕ → ℕ → List Reference → List Source
new_in m need action instance number references =
    map (λ e. New action instance e.0) (filter (λ e. fits need e.1) (enumerate_from number (map (open_reference m action instance) (enumerate_from number references))))

-- the instances of a component among those that are numbered from there on
abbrev pub instances_from : NameId → ℕ → List Part → List ℕ
instances_from component number parts = map (λ e. e.0) (filter (λ e. same_name e.1.component component && true) (enumerate_from number parts))

-- the sources among new actions
abbrev pub all_new : ModelTree → Filled → List Source
all_new m need = flat_map (sources_of_type m need) (enumerate_from 0 m.actions)

abbrev pub new_sources_if : ModelTree → Bool → Filled → List Source
new_sources_if m more need = if more then all_new m need else []

-- the sources of a need that no bind fixes, with those among new actions
abbrev pub free_with : List Act → List Source → Spot → List Source
free_with acts new need = initial_sources acts need.filled ++ (old_sources acts need ++ new)

-- the source of one that a bind fixes, where it may still be linked
abbrev pub fixed_by : List Act → Spot → ℕ × ℕ → List Source
fixed_by acts need source = if is_open need then fixed_among acts need source (spots acts) else []

abbrev pub options_with : List Act → List Source → Spot → Option (ℕ × ℕ) → List Source
options_with acts new need None = free_with acts new need
options_with acts new need (Some source) = fixed_by acts need source

abbrev pub options_by : ModelTree → List Act → Bool → Spot → Option (ℕ × ℕ) → List Source
options_by m acts more need fixed = options_with acts (new_sources_if m more need.filled) need fixed
