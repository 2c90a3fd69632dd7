-- Which lists of choices a search has passed at a list.
use Rattle.std.specs.Prelude.{◌≡◌, ℕ, ◌<◌, ◌⊎◌, List, [], ◌∷◌}
use Rattle.pst_model.specs.ModelTree.{ModelTree}
use Rattle.pst_scen.specs.declared.scenario.Scenario.{Scenario}
use Rattle.pst_legal.specs.First.{ReadsLegal}

-- before the list, or the list itself, or one that begins with it
abbrev pub IsPassed : List ℕ → List ℕ → Type 0
IsPassed [] other = Unit {0}
IsPassed (x ∷ xs) [] = Unit {0}
IsPassed (x ∷ xs) (y ∷ ys) = (y < x) ⊎ ((y ≡ x) × IsPassed xs ys)

-- no list of choices that is passed reads a legal scenario of the level
abbrev pub NonePassed : ModelTree → ℕ → ℕ → ℕ → List ℕ → Type 0
NonePassed m root seed level choices = (other : List ℕ) (s : Scenario) → IsPassed choices other → ReadsLegal m root seed level other s → ⊥
