-- Which beginnings of a list are known to refuse no constraint.
use Rattle.std.specs.Prelude.{◌≡◌, ◌⊎◌, ℕ, ◌+◌, ◌<◌, ◌≤◌, List, [], ◌∷◌, ◌++◌, length, take, Bool, true, Option}
use Rattle.pst_model.specs.declared.model.Model.{Model}
use Rattle.pst_model.specs.ModelView.{view_model}
use Rattle.pst_scen.specs.declared.scenario.Scenario.{Scenario}
use Rattle.pst_legal.specs.First.{NoneRefused}
use Rattle.pst_legal.specs.ValueReading.{Answer, Options, Dead, Whole}
use Rattle.pst_shape.specs.Walks.{IfRead, HasDigit}
use Rattle.pst_link_walk.specs.Walks.{Kept, answer}
use Rattle.pst_link_walk.specs.News.{IsSize}

abbrev pub kept_at : Model → ℕ → ℕ → ℕ → List ℕ → Kept
kept_at m root seed level choices = record { model = m; root = root; seed = seed; level = level; choices = choices }

-- a fact on what is read so far, at a place
abbrev pub IfPlace : Answer → (Scenario → Type 0) → Type 0
IfPlace (Options s n) P = P s
IfPlace Dead P = Unit {0}
IfPlace (Whole s) P = Unit {0}

-- what these choices have read up to a place of the activity or the sources refuses no constraint
abbrev pub RefusesNone : Model → ℕ → ℕ → ℕ → List ℕ → Type 0
RefusesNone m root seed level choices = IfPlace (answer (kept_at m root seed level choices)) (NoneRefused (view_model m))

-- so many beginnings of the list refuse none
pub record IsFree (m : Model) (root seed level : ℕ) (choices : List ℕ) (free : ℕ) : Type 0 where
  pub few : free ≤ length choices + 1
  pub none : (k : ℕ) → k < free → RefusesNone m root seed level (take k choices)

-- With one choice more there is none refused, where there wasn't before, when there were so many nodes and actions.
abbrev pub IsFreed : Model → ℕ → ℕ → ℕ → ℕ → Option ℕ → ℕ → Kept → Type 0
IsFreed m root seed level digit size nodes new =
    (choices : List ℕ) → new ≡ kept_at m root seed level (choices ++ digit ∷ []) → HasDigit (answer (kept_at m root seed level choices)) digit → IsSize (kept_at m root seed level choices) size
    → IfRead (answer (kept_at m root seed level choices)) (λ s. nodes ≡ length s.nodes) → RefusesNone m root seed level choices → RefusesNone m root seed level (choices ++ digit ∷ [])

-- as many as before, or one more where all were free before
abbrev pub Frees : ℕ → ℕ → Bool → ℕ → Type 0
Frees free count is_freed new = (new ≡ free) ⊎ ((is_freed ≡ true) × (count < free) × (new ≡ count + 2))
