-- A search between two turns.
use Rattle.std.specs.Prelude.{ℕ, ◌≡◌, ◌<◌, ◌⊎◌, List, Some, slice_get, length, sum_by, Bool, true, false}
use Rattle.pst_loops.specs.Graph.{Graph, IsIn, HasEdge, HasWalk}

abbrev pub IsReached : ℕ → List Bool → ℕ → Type 0
IsReached from marks v = (v ≡ from) ⊎ (slice_get marks v ≡ Some true)

-- of the vertices that were reached and aren't on the stack the edges that are gone have been gone through
pub record IsSearch (g : Graph) (from to : ℕ) (marks : List Bool) (stack : List ℕ) (Gone : ℕ → ℕ → Type 0) : Type 0 where
  pub found : (x : ℕ) → slice_get marks x ≡ Some true → HasWalk g from x
  pub waiting : (x : ℕ) → IsIn x stack → IsReached from marks x
  pub closed : (x y : ℕ) → IsReached from marks x → (IsIn x stack → ⊥) → Gone x y → HasEdge g x y → (slice_get marks y ≡ Some true) × (y ≡ to → ⊥)
  pub within : (x : ℕ) → IsIn x stack → x < length g
  pub all : length marks ≡ length g

-- all edges, but those of v alone that are done
abbrev pub IsGone : ℕ → List ℕ → ℕ → ℕ → Type 0
IsGone v done x y = x ≡ v → IsIn y done

abbrev pub EachGone : ℕ → ℕ → Type 0
EachGone x y = Unit {0}

abbrev pub weight : Bool → ℕ
weight true = 0
weight false = 1

abbrev pub work : List Bool → ℕ
work marks = sum_by weight marks
