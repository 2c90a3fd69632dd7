-- What a walk through the activity and the sources keeps, and what its list of choices reads.
use Rattle.std.specs.Prelude.{◌≡◌, ℕ, List, [], ◌∷◌, ◌++◌, length}
use Rattle.pst_model.specs.declared.model.Model.{Model}
use Rattle.pst_model.specs.ModelView.{view_model}
use Rattle.pst_scen.specs.declared.scenario.Scenario.{Scenario}
use Rattle.pst_legal.specs.Growing.{nothing_yet}
use Rattle.pst_legal.specs.Reading.{Reading, Wants, Stops, Reads, then_read, read_tree}
use Rattle.pst_legal.specs.SupplyReading.{read_supply}
use Rattle.pst_legal.specs.ValueReading.{Answer, answer_of}

-- the model, the root, the seed, the level and the choices
pub record Kept : Type 0 where
  pub model : Model
  pub root : ℕ
  pub seed : ℕ
  pub level : ℕ
  pub choices : List ℕ

abbrev pub with_choice : Kept → ℕ → Kept
with_choice k digit = record { model = k.model; root = k.root; seed = k.seed; level = k.level; choices = k.choices ++ digit ∷ [] }

-- what these choices read of the activity
abbrev pub tree_reading : Model → ℕ → ℕ → ℕ → List ℕ → Reading
tree_reading m root seed level choices = read_tree (view_model m) seed root (nothing_yet level) 0 choices

-- what the choices read of the activity, and then of the sources
abbrev pub reading : Kept → Reading
reading k = then_read (tree_reading k.model k.root k.seed k.level k.choices) (read_supply (view_model k.model) k.seed)

abbrev pub answer : Kept → Answer
answer k = answer_of (reading k)

-- no choice is left behind the last place
abbrev pub IsUsed : Reading → Type 0
IsUsed (Wants s n) = Unit {0}
IsUsed Stops = Unit {0}
IsUsed (Reads s place left) = left ≡ []

-- What a reading has come to: nothing is left over, the place counts the choices, and there are no first objects yet.
pub record IsEnd (k : Kept) (s : Scenario) (place : ℕ) (left : List ℕ) : Type 0 where
  pub used : left ≡ []
  pub counts : place ≡ length k.choices
  pub of_level : s.level ≡ k.level
  pub firsts : s.firsts ≡ []

abbrev pub AtEnd : Kept → Reading → Type 0
AtEnd k (Wants s n) = (s.level ≡ k.level) × (s.firsts ≡ [])
AtEnd k Stops = Unit {0}
AtEnd k (Reads s place left) = IsEnd k s place left

-- the activity is read through
abbrev pub HasTree : Kept → Type 0
HasTree k = (tree : Scenario) × (place : ℕ) × (left : List ℕ) × (tree_reading k.model k.root k.seed k.level k.choices ≡ Reads tree place left)
