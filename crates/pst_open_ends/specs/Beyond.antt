-- The references of new actions that may be sources, by pool and kind.
use Rattle.std.specs.Prelude.{◌≡◌, ℕ, ◌<◌, List, [], ◌∷◌, Bool, if◌then◌else◌, Option, Some, None, slice_get, IsTrue}
use Rattle.pst_model.specs.ModelTree.{ModelTree}
use Rattle.pst_model.specs.ModelView.{view_model}
use Rattle.pst_model.specs.Served.{IsInOrder}
use Rattle.pst_scen.specs.declared.act.Filled.{Filled}
use Rattle.pst_scen.specs.declared.act.Flow.{Flow}
use Rattle.pst_scen.specs.declared.act.Flow.TheVariants.{BufferIn, BufferOut, StreamIn, StreamOut, StateIn, StateOut}
use Rattle.pst_scen.specs.declared.act.Link.TheVariants as link
use Rattle.pst_legal.specs.SupplyReading.{Source as Given}
use Rattle.pst_open_ends.specs.declared.spot.Source.{Source}
use Rattle.pst_open_ends.specs.declared.new_ends.NewEnds.{NewEnds}
use Rattle.pst_open_ends.specs.declared.beyond.NewSources.{NewSources}
use Rattle.pst_open_ends.specs.Spots.{given_sources}
use Rattle.pst_open_ends.specs.Options.{all_new}

-- a need of that kind in that pool
abbrev pub wanted : Flow → ℕ → Filled
wanted need pool = record { pool = pool; flow = need; values = []; link = link.Nothing }

-- the references of new actions that may be the source of a need of that kind in that pool, by type, instance and reference
abbrev pub beyond : ModelTree → Flow → ℕ → List Given
beyond m need pool = all_new m (wanted need pool)

-- ---- what is kept

-- the references of new actions that are kept of a pool for needs of a kind
abbrev pub row_sources : Flow → NewEnds → List Source
row_sources BufferIn row = row.buffers.items
row_sources BufferOut row = []
row_sources StreamIn row = row.stream_outputs.items
row_sources StreamOut row = row.stream_inputs.items
row_sources StateIn row = row.writers.items
row_sources StateOut row = row.writers.items

abbrev pub sources_in : Flow → Option NewEnds → List Source
sources_in need None = []
sources_in need (Some row) = row_sources need row

abbrev pub kept_at : Flow → ℕ → List NewEnds → List Source
kept_at need pool pools = sources_in need (slice_get pools pool)

abbrev pub given_at : Flow → ℕ → List NewEnds → List Given
given_at need pool pools = given_sources (kept_at need pool pools)

abbrev pub source_if : Bool → Source → List Source
source_if b source = if b then source ∷ [] else []

-- where actions are to be inferred, for each kind and pool those of the model are kept
pub record AreNew (news : NewSources) : Type 0 where
  pub order : IsTrue news.in_order → IsInOrder (view_model news.model.now).served
  pub given : 0 < news.level → (need : Flow) (pool : ℕ) → given_at need pool news.pools.items ≡ beyond (view_model news.model.now) need pool
