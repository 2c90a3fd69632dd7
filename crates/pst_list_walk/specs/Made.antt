-- The invariant of a walk.
use Rattle.std.specs.Prelude.{◌≡◌, ℕ, List, [], ◌∷◌, ◌++◌, length, false, Option, Some, None}
use Rattle.pst_model.specs.declared.model.Model.{Model}
use Rattle.pst_model.specs.ModelView.{view_model}
use Rattle.pst_model.specs.Sound.{IsSound}
use Rattle.pst_scen.specs.declared.scenario.Scenario.{Scenario}
use Rattle.pst_legal.specs.Reading.{Reads}
use Rattle.pst_value_walk.specs.Walks.{Kept as Values}
use Rattle.pst_link_walk.specs.Walks.{Kept, reading}
use Rattle.pst_link_walk.specs.Made.{IsInside}
use Rattle.pst_refusals.specs.Inlines.{has_inlines}
use Rattle.pst_new_refusals.specs.Far.{AreFarOf}
pub use Rattle.pst_list_walk.specs.Free.{kept_at}
use Rattle.pst_list_walk.specs.Free.{IsFree}
use Rattle.pst_list_walk.specs.declared.walk.ListWalk.TheInside.{Inside}

abbrev pub choices_of : Option Values → List ℕ
choices_of None = []
choices_of (Some k) = k.choices

-- the same, with that level and without first objects
abbrev pub linked_of : ℕ → Scenario → Scenario
linked_of level s = record { level = level; nodes = s.nodes; actions = s.actions; firsts = [] }

abbrev pub values_of : Model → ℕ → Scenario → ℕ → List ℕ → Values
values_of m seed linked place choices = record { model = m; linked = linked; seed = seed; place = place; choices = choices }

-- a walk over claims and values, from the end of what these choices read of the activity and the sources on
pub record IsBehind (m : Model) (root seed level : ℕ) (choices : List ℕ) (k : Values) : Type 0 where
  pub linked : Scenario
  pub place : ℕ
  pub reads : reading (kept_at m root seed level choices) ≡ Reads linked place []
  pub is : k ≡ values_of m seed linked place k.choices

-- the sources aren't read through, or there is such a walk
abbrev pub Stands : Model → ℕ → ℕ → ℕ → List ℕ → Option Values → Type 0
Stands m root seed level choices None = IsInside (reading (kept_at m root seed level choices))
Stands m root seed level choices (Some k) = IsBehind m root seed level choices k

-- and the walk over claims and values has no choice yet
pub record Begins (m : Model) (root seed level : ℕ) (choices : List ℕ) (values : Option Values) : Type 0 where
  pub stands : Stands m root seed level choices values
  pub fresh : choices_of values ≡ []

-- one choice more of the activity or of a source
pub record Goes (m : Model) (root seed level : ℕ) (choices : List ℕ) (digit : ℕ) (new : Kept) (values : Option Values) : Type 0 where
  pub is : new ≡ kept_at m root seed level (choices ++ digit ∷ [])
  pub begins : Begins m root seed level (choices ++ digit ∷ []) values

abbrev pub kept_by : Inside → Kept
kept_by w = kept_at w.model.now w.root w.seed w.level (w.links.choices ++ choices_of w.values)

pub record IsKept (w : Inside) : Type 0 where
  pub sound : IsSound (view_model w.model.now)
  pub far : AreFarOf (view_model w.model.now) w.far
  pub inlines : w.inlines ≡ false → has_inlines (view_model w.model.now) ≡ false
  pub linked : w.linked ≡ length w.links.choices
  pub free : IsFree w.model.now w.root w.seed w.level w.links.choices w.free
  pub links : w.links ≡ kept_at w.model.now w.root w.seed w.level w.links.choices
  pub valued : w.valued ≡ length (choices_of w.values)
  pub stands : Stands w.model.now w.root w.seed w.level w.links.choices w.values
