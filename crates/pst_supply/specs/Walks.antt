-- What a walk keeps, and what its list of choices reads.
use Rattle.std.specs.Prelude.{◌≡◌, ℕ, ◌<◌, List, [], ◌∷◌, ◌++◌, map, Option, Some, None}
use Rattle.pst_model.specs.declared.model.Model.{Model}
use Rattle.pst_model.specs.ModelTree.{ModelTree}
use Rattle.pst_model.specs.ModelView.{view_model}
use Rattle.pst_scen.specs.declared.act.Act.{Act}
use Rattle.pst_scen.specs.declared.tree.Node.{Node}
use Rattle.pst_scen.specs.declared.next.Next.{Next}
use Rattle.pst_scen.specs.declared.next.Next.TheVariants as next
use Rattle.pst_scen.specs.declared.scenario.Scenario.{Scenario}
use Rattle.pst_legal.specs.SupplyReading.{read_supply}
use Rattle.pst_legal.specs.ValueReading.{Answer, Options, Dead, Whole, answer_of}
use Rattle.pst_open_ends.specs.declared.links.Change.{Change}
use Rattle.pst_open_ends.specs.Changes.{opened, undone}

-- the model, the nodes and leaves that are read, the seed, the number of the first place, the level and the choices
pub record Kept : Type 0 where
  pub model : Model
  pub nodes : List Node
  pub leaves : List Act
  pub seed : ℕ
  pub place : ℕ
  pub level : ℕ
  pub choices : List ℕ

abbrev pub with_choice : Kept → ℕ → Kept
with_choice k digit = record k { choices = k.choices ++ digit ∷ [] }

-- the scenario with these actions
abbrev pub scenario_with : ℕ → List Node → List Act → Scenario
scenario_with level nodes acts = record { level = level; nodes = nodes; actions = acts; firsts = [] }

-- the scenario in which no reference of the leaves is linked yet
abbrev pub scenario_at : ModelTree → ℕ → List Node → List Act → Scenario
scenario_at m level nodes leaves = scenario_with level nodes (map (opened m) leaves)

-- what the choices read of the sources
abbrev pub answer : Kept → Answer
answer k = answer_of (read_supply (view_model k.model) k.seed (scenario_at (view_model k.model) k.level k.nodes k.leaves) k.place k.choices)

abbrev pub next_of : Answer → Next
next_of (Options s n) = next.Options n
next_of Dead = next.Dead
next_of (Whole s) = next.Whole

-- a fact on what is read so far, where it isn't a dead end
abbrev pub IfRead : Answer → (Scenario → Type 0) → Type 0
IfRead (Options s n) P = P s
IfRead Dead P = Unit {0}
IfRead (Whole s) P = P s

-- there is a place with that digit
abbrev pub HasDigit : Answer → ℕ → Type 0
HasDigit (Options s n) digit = digit < n
HasDigit Dead digit = ⊥
HasDigit (Whole s) digit = ⊥

-- What the last choice changed: taken back, it gives the actions that the choices before it have read.
abbrev pub IsChange : Kept → Option Change → Type 0
IsChange k None = k.choices ≡ []
IsChange k (Some change) =
    (before : List ℕ) × (digit : ℕ) × (k.choices ≡ before ++ digit ∷ []) × IfRead (answer k) (λ s. IfRead (answer (record k { choices = before })) (λ t. t.actions ≡ undone change s.actions))
