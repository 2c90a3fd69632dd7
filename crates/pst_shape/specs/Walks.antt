-- What a walk keeps, and what its list of choices reads.
use Rattle.std.specs.Prelude.{◌≡◌, ℕ, ◌<◌, List, [], ◌∷◌, ◌++◌, length, Option, None, Some}
use Rattle.pst_model.specs.declared.model.Model.{Model}
use Rattle.pst_model.specs.ModelView.{view_model}
use Rattle.pst_scen.specs.declared.next.Next.{Next}
use Rattle.pst_scen.specs.declared.next.Next.TheVariants as next
use Rattle.pst_scen.specs.declared.scenario.Scenario.{Scenario}
use Rattle.pst_legal.specs.Growing.{nothing_yet}
use Rattle.pst_legal.specs.Reading.{read_tree}
use Rattle.pst_legal.specs.ValueReading.{Answer, Options, Dead, Whole, answer_of}
use Rattle.pst_shape_parts.specs.Trees.{Tree, cut_to, taken_back}
use Rattle.pst_shape.specs.declared.walk.Growth.{Growth}

-- the model, the root, the seed and the choices
pub record Kept : Type 0 where
  pub model : Model
  pub root : ℕ
  pub seed : ℕ
  pub choices : List ℕ

abbrev pub with_choice : Kept → ℕ → Kept
with_choice k digit = record { model = k.model; root = k.root; seed = k.seed; choices = k.choices ++ digit ∷ [] }

-- what the choices read of the activity, at a level
abbrev pub answer : Kept → ℕ → Answer
answer k level = answer_of (read_tree (view_model k.model) k.seed k.root (nothing_yet level) 0 k.choices)

abbrev pub next_of : Answer → Next
next_of (Options s n) = next.Options n
next_of Dead = next.Dead
next_of (Whole s) = next.Whole

-- a fact on what is read so far, where it isn't a dead end
abbrev pub IfRead : Answer → (Scenario → Type 0) → Type 0
IfRead (Options s n) P = P s
IfRead Dead P = Unit {0}
IfRead (Whole s) P = P s

-- there is a place with that digit
abbrev pub HasDigit : Answer → ℕ → Type 0
HasDigit (Options s n) digit = digit < n
HasDigit Dead digit = ⊥
HasDigit (Whole s) digit = ⊥

-- ---- what a choice added

abbrev pub tree_in : Scenario → Tree
tree_in s = record { nodes = s.nodes; leaves = s.actions }

-- the value that a choice gave the action of a node is gone
abbrev pub without : Option ℕ → Tree → Tree
without None t = t
without (Some n) t = taken_back t n

-- So many nodes and actions there were. They are there still as they were, but for the value that was given.
pub record IsAdded (growth : Growth) (before after : Scenario) : Type 0 where
  pub nodes : growth.nodes ≡ length before.nodes
  pub leaves : growth.leaves ≡ length before.actions
  pub others : tree_in before ≡ without growth.value (cut_to growth.nodes growth.leaves (tree_in after))

-- what the last choice added to what the choices before it have read
abbrev pub IsGrowth : Kept → Option Growth → Type 0
IsGrowth k None = k.choices ≡ []
IsGrowth k (Some growth) =
    (before : List ℕ) × (digit : ℕ) × (k.choices ≡ before ++ digit ∷ [])
    × ((level : ℕ) → IfRead (answer k level) (λ after. IfRead (answer (record k { choices = before }) level) (λ s. IsAdded growth s after)))
