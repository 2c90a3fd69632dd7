-- The invariant of a walk.
use Rattle.std.specs.Prelude.{◌≡◌, ℕ, List, [], ◌∷◌, ◌++◌, length, map, Option, Some, None, IsTrue}
use Rattle.pst_model.specs.declared.model.Model.{Model}
use Rattle.pst_model.specs.ModelView.{view_model}
use Rattle.pst_model.specs.Served.{IsInOrder}
use Rattle.pst_scen.specs.declared.scenario.Scenario.{Scenario}
use Rattle.pst_legal.specs.Reading.{Reading, Wants, Stops, Reads}
use Rattle.pst_legal.specs.SupplyReading.{read_supply}
use Rattle.pst_shape_parts.specs.Trees.{bare}
use Rattle.pst_shape.specs.Walks.{Kept as Shape}
use Rattle.pst_supply.specs.Walks.{Kept as Supply}
use Rattle.pst_link_walk.specs.declared.walk.LinkWalk.TheInside.{Inside}
use Rattle.pst_link_walk.specs.Walks.{Kept, tree_reading, IsUsed}
use Rattle.pst_link_walk.specs.Opened.{AreOpened}

-- the activity isn't read through yet
abbrev pub IsInside : Reading → Type 0
IsInside (Wants s n) = Unit {0}
IsInside Stops = Unit {0}
IsInside (Reads s place left) = ⊥

abbrev pub choices_of : Option Supply → List ℕ
choices_of None = []
choices_of (Some k) = k.choices

abbrev pub supply_of : Model → ℕ → ℕ → Scenario → ℕ → List ℕ → Supply
supply_of m seed level t q choices = record { model = m; nodes = t.nodes; leaves = map bare t.actions; seed = seed; place = q; level = level; choices = choices }

-- a walk over the sources, from the end of what these choices read of the activity on
pub record IsBehind (m : Model) (root seed level : ℕ) (choices : List ℕ) (k : Supply) : Type 0 where
  pub tree : Scenario
  pub place : ℕ
  pub reads : tree_reading m root seed level choices ≡ Reads tree place []
  pub is : k ≡ supply_of m seed level tree place k.choices
  pub used : IsUsed (read_supply (view_model m) seed tree place k.choices)

-- the activity isn't read through, or there is such a walk
abbrev pub Stands : Model → ℕ → ℕ → ℕ → List ℕ → Option Supply → Type 0
Stands m root seed level choices None = IsInside (tree_reading m root seed level choices)
Stands m root seed level choices (Some k) = IsBehind m root seed level choices k

-- and the walk over the sources has no choice yet
pub record Begins (m : Model) (root seed level : ℕ) (choices : List ℕ) (supply : Option Supply) : Type 0 where
  pub stands : Stands m root seed level choices supply
  pub fresh : choices_of supply ≡ []

abbrev pub shape_of : Model → ℕ → ℕ → List ℕ → Shape
shape_of m root seed choices = record { model = m; root = root; seed = seed; choices = choices }

-- one choice more of the activity
pub record Goes (m : Model) (root seed level : ℕ) (choices : List ℕ) (digit : ℕ) (new : Shape) (supply : Option Supply) : Type 0 where
  pub is : new ≡ shape_of m root seed (choices ++ digit ∷ [])
  pub begins : Begins m root seed level (choices ++ digit ∷ []) supply

abbrev pub kept_by : Inside → Kept
kept_by w = record { model = w.model.now; root = w.root; seed = w.seed; level = w.level; choices = w.shape.choices ++ choices_of w.supply }

pub record IsKept (w : Inside) : Type 0 where
  pub order : IsTrue w.in_order → IsInOrder (view_model w.model.now).served
  pub shape : w.shape ≡ shape_of w.model.now w.root w.seed w.shape.choices
  pub made : w.made ≡ length w.shape.choices
  pub linked : w.linked ≡ length (choices_of w.supply)
  pub stands : Stands w.model.now w.root w.seed w.level w.shape.choices w.supply
  pub opened : AreOpened w.model.now w.root w.seed w.level w.shape.choices w.opened.items
