-- The references that may be sources, by pool and kind.
use Rattle.std.specs.Prelude.{◌≡◌, ℕ, ◌+◌, ◌-◌, List, [], ◌∷◌, ◌++◌, map, length, take, Bool, true, false, not, ◌&&◌, nat_eq, if◌then◌else◌, Option, Some, None, slice_get, vec_capacity}
use Rattle.std.specs.List.{filter, insert}
use Rattle.pst_scen.specs.declared.act.Act.{Act}
use Rattle.pst_scen.specs.declared.act.Filled.{Filled}
use Rattle.pst_scen.specs.declared.act.Flow.{Flow}
use Rattle.pst_scen.specs.declared.act.Flow.TheVariants.{BufferIn, BufferOut, StreamIn, StreamOut, StateIn, StateOut}
use Rattle.pst_scen.specs.declared.act.Link.TheVariants as link
use Rattle.pst_legal.specs.Supplied.{is_source_for}
use Rattle.pst_legal.specs.SupplyReading.{Spot, spots, is_stream, is_writer, is_open, is_previous}
use Rattle.pst_ties.specs.declared.tied.End.{End}
use Rattle.pst_ties.specs.Tieds.{same_end}
use Rattle.pst_pool_sources.specs.declared.ends.SourceEnds.{SourceEnds}
use Rattle.pst_pool_sources.specs.declared.sources.PoolSources.{PoolSources}

-- the reference may be the source of a need of that kind in that pool, whatever both are linked to
abbrev pub offers : Flow → ℕ → Filled → Bool
offers need pool filled = is_source_for need filled.flow && nat_eq filled.pool pool

abbrev pub end_of : Spot → End
end_of s = record { act = s.act; reference = s.reference }

-- the references that may be the source of a need of that kind in that pool, by action and reference
abbrev pub fitting : Flow → ℕ → List Act → List End
fitting need pool acts = map end_of (filter (λ s. offers need pool s.filled) (spots acts))

-- for a need of that kind in that pool: a stream end must be free, and a previous writer mustn't be that of another
abbrev pub is_untaken : Flow → ℕ → List Act → Spot → Bool
is_untaken need pool acts spot = if is_stream need then is_open spot else not (is_writer need && is_previous acts pool (link.Act spot.act spot.reference))

abbrev pub may_serve : Flow → ℕ → List Act → Spot → Bool
may_serve need pool acts spot = offers need pool spot.filled && is_untaken need pool acts spot

-- the references that may still be linked to a need of that kind in that pool, by action and reference
abbrev pub free_ends : Flow → ℕ → List Act → List End
free_ends need pool acts = map end_of (filter (may_serve need pool acts) (spots acts))

-- ---- what is kept

-- the references of a pool that are kept for needs of a kind
abbrev pub row_ends : Flow → SourceEnds → List End
row_ends BufferIn row = row.buffers.items
row_ends BufferOut row = []
row_ends StreamIn row = row.stream_outputs.items
row_ends StreamOut row = row.stream_inputs.items
row_ends StateIn row = row.writers.items
row_ends StateOut row = row.free_writers.items

abbrev pub ends_in : Flow → Option SourceEnds → List End
ends_in need None = []
ends_in need (Some row) = row_ends need row

abbrev pub ends_at : Flow → ℕ → PoolSources → List End
ends_at need pool sources = ends_in need (slice_get sources.pools.items pool)

-- a writer of the pool is kept as one that replaces the first object
abbrev pub begun_in : Option SourceEnds → Bool
begun_in None = false
begun_in (Some row) = row.begun

abbrev pub begun_at : ℕ → PoolSources → Bool
begun_at pool sources = begun_in (slice_get sources.pools.items pool)

-- there is memory for so many references of a pool, for needs that take their sources from others
abbrev pub row_room : Flow → SourceEnds → ℕ
row_room BufferIn row = 0
row_room BufferOut row = 0
row_room StreamIn row = vec_capacity row.stream_outputs
row_room StreamOut row = vec_capacity row.stream_inputs
row_room StateIn row = 0
row_room StateOut row = vec_capacity row.free_writers

abbrev pub room_in : Flow → Option SourceEnds → ℕ
room_in need None = 0
room_in need (Some row) = row_room need row

abbrev pub room_at : Flow → ℕ → PoolSources → ℕ
room_at need pool sources = room_in need (slice_get sources.pools.items pool)

-- for each kind and pool those of the actions are kept that may still be linked
pub record AreSources (sources : PoolSources) (acts : List Act) : Type 0 where
  pub ends : (need : Flow) (pool : ℕ) → ends_at need pool sources ≡ free_ends need pool acts
  pub begun : (pool : ℕ) → begun_at pool sources ≡ is_previous acts pool link.Initial

-- ---- taking references out

-- needs of this kind take their sources from others
abbrev pub keeps : Flow → Bool
keeps BufferIn = false
keeps BufferOut = false
keeps StreamIn = true
keeps StreamOut = true
keeps StateIn = false
keeps StateOut = true

-- a reference of the second kind is taken out of those for needs of the first
abbrev pub takes : Flow → Flow → Bool
takes need flow = keeps need && is_source_for need flow

abbrev pub without : End → List End → List End
without end ends = filter (λ e. not (same_end end e)) ends

-- the reference stands at its place again
abbrev pub put_back : Option ℕ → End → List End → List End
put_back None end ends = ends
put_back (Some place) end ends = insert ends place end

-- ---- parts

abbrev pub end_if : Bool → End → List End
end_if b end = if b then end ∷ [] else []

-- those among the references of an action that are numbered from there on
abbrev pub fitting_in : Flow → ℕ → ℕ → ℕ → List Filled → List End
fitting_in need pool act number [] = []
fitting_in need pool act number (filled ∷ more) = end_if (offers need pool filled) (record { act = act; reference = number }) ++ fitting_in need pool act (number + 1) more

-- those among the actions that are numbered from there on
abbrev pub fitting_from : Flow → ℕ → ℕ → List Act → List End
fitting_from need pool number [] = []
fitting_from need pool number (act ∷ more) = fitting_in need pool number 0 act.references ++ fitting_from need pool (number + 1) more

-- how many references that may be such sources there are
abbrev pub count_in : Flow → ℕ → List Filled → ℕ
count_in need pool [] = 0
count_in need pool (filled ∷ more) = (if offers need pool filled then 1 else 0) + count_in need pool more

abbrev pub count_from : Flow → ℕ → List Act → ℕ
count_from need pool [] = 0
count_from need pool (act ∷ more) = count_in need pool act.references + count_from need pool more

-- all but so many of the last
abbrev pub but_last : ℕ → List End → List End
but_last n ends = take (length ends - n) ends
