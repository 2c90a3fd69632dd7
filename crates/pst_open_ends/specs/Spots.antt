-- References and sources, as the definitions see what the program keeps of them.
use Rattle.std.specs.Prelude.{ℕ, List, [], map, flat_map, Option, slice_get}
use Rattle.std.specs.List.{enumerate_from}
use Rattle.std.specs.Option.{option_map, option_and_then}
use Rattle.pst_scen.specs.declared.act.Act.{Act}
use Rattle.pst_scen.specs.declared.act.Filled.{Filled}
use Rattle.pst_legal.specs.SupplyReading.{Spot as Read, Source as Given, Initially, From, New, spots_in}
use Rattle.pst_ties.specs.declared.tied.End.{End}
use Rattle.pst_open_ends.specs.declared.spot.Spot.{Spot}
use Rattle.pst_open_ends.specs.declared.spot.Source.{Source}
use Rattle.pst_open_ends.specs.declared.spot.Source.TheVariants as source

-- the reference, its values aside
abbrev pub read_spot : Spot → Read
read_spot s = record { act = s.act; reference = s.reference; filled = record { pool = s.pool; flow = s.flow; values = []; link = s.link } }

-- what is kept of a reference
abbrev pub kept_spot : Read → Spot
kept_spot s = record { act = s.act; reference = s.reference; pool = s.filled.pool; flow = s.filled.flow; link = s.filled.link }

abbrev pub given_source : Source → Given
given_source source.Initially = Initially
given_source (source.From act reference) = From act reference
given_source (source.New action instance reference) = New action instance reference

-- the references of an action from a number on
abbrev pub spots_of : ℕ → ℕ → List Filled → List Read
spots_of act number references = map (λ e. record { act = act; reference = e.0; filled = e.1 }) (enumerate_from number references)

-- the references of actions that are numbered from there on
abbrev pub spots_from : ℕ → List Act → List Read
spots_from number acts = flat_map spots_in (enumerate_from number acts)

-- what the sources are, as the definitions see them
abbrev pub given_sources : List Source → List Given
given_sources found = map given_source found

-- the reference at an end
abbrev pub spot_at : List Act → End → Option Read
spot_at acts end = option_and_then (λ act. option_map (λ filled. record { act = end.act; reference = end.reference; filled = filled }) (slice_get act.references end.reference)) (slice_get acts end.act)
