-- The choices of a walk, and what one of them does.
use Rattle.std.specs.Prelude.{◌≡◌, ◌⊎◌, ℕ, List, [], ◌∷◌, ◌++◌, length, Option, Some, None, map, slice_get}
use Rattle.pst_rng.specs.Words.{start_of}
use Rattle.pst_model.specs.declared.model.Model.{Model}
use Rattle.pst_model.specs.ModelTree.{ModelTree}
use Rattle.pst_model.specs.ModelView.{view_model}
use Rattle.pst_scen.specs.declared.act.Act.{Act}
use Rattle.pst_legal.specs.Binds.{Bound}
use Rattle.pst_legal.specs.Reading.{option_at}
use Rattle.pst_legal.specs.SupplyReading.{Spot, Source}
use Rattle.pst_open_ends.specs.declared.links.Change.{Change}
use Rattle.pst_pool_sources.specs.Offers.{AreSources}
use Rattle.pst_open_ends.specs.Beyond.{AreNew}
use Rattle.pst_open_ends.specs.Changes.{opened, Supplies}
use Rattle.pst_open_ends.specs.Turns.{AreNexts}
use Rattle.pst_free_ends.specs.Steps.{NoneAhead}
use Rattle.pst_supply.specs.declared.walk.Made.{Made}
use Rattle.pst_supply.specs.declared.walk.Went.{Went}
use Rattle.pst_supply.specs.declared.walk.Begun.{Begun}
use Rattle.pst_supply.specs.Stops.{IsStop}

-- the digits, of choices latest first
abbrev pub digits_of : List Made → List ℕ
digits_of [] = []
digits_of (made ∷ older) = digits_of older ++ made.digit ∷ []

-- what the last of choices changed, latest first
abbrev pub change_after : List Made → Option Change
change_after [] = None
change_after (made ∷ older) = Some made.change

-- the digit names that source among these, at that place
abbrev pub NamesSource : ℕ → ℕ → List Source → ℕ → Source → Type 0
NamesSource seed place sources digit source = slice_get sources (option_at (start_of seed place (length sources)) (length sources) digit) ≡ Some source

-- a source is linked, and reading stands there then
pub record Advances (m : ModelTree) (bounds : List Bound) (leaves level : ℕ) (need : Spot) (source : Source) (went : Went) (old new : List Act) : Type 0 where
  pub supplies : Supplies m need source went.change old new
  pub stop : IsStop m bounds new leaves level went.stop

-- what a walk of these leaves knows before its first choice
pub record Begins (m : Model) (bounds : List Bound) (leaves : List Act) (count n : ℕ) (begun : Begun) : Type 0 where
  pub model : begun.beyond.model.now ≡ m
  pub level : begun.beyond.level ≡ n
  pub beyond : (begun.first.need ≡ None) ⊎ AreNew begun.beyond
  pub acts : begun.acts.items ≡ map (opened (view_model begun.beyond.model.now)) leaves
  pub among : AreSources begun.among begun.acts.items
  pub ahead : NoneAhead begun.acts.items
  pub nexts : AreNexts begun.nexts.items begun.acts.items
  pub first : IsStop (view_model begun.beyond.model.now) bounds begun.acts.items count begun.beyond.level begun.first
