-- Walks in a graph, whose vertices are the indices of rows.
use Rattle.std.specs.Prelude.{ℕ, ◌≡◌, ◌<◌, ◌⊎◌, List, [], ◌∷◌, Some, slice_get, length}
use Rattle.std.specs.Global.{Vec}

abbrev pub IsIn : ℕ → List ℕ → Type 0
IsIn x [] = ⊥
IsIn x (y ∷ ys) = (y ≡ x) ⊎ IsIn x ys

abbrev pub Graph : Type 0
Graph = List (Vec ℕ)

abbrev pub IsRow : Graph → ℕ → List ℕ → Type 0
IsRow g a row = (v : Vec ℕ) × (slice_get g a ≡ Some v) × (v.items ≡ row)

abbrev pub HasEdge : Graph → ℕ → ℕ → Type 0
HasEdge g a b = (row : List ℕ) × IsRow g a row × IsIn b row

-- each has an edge to the next, and the last to b
abbrev pub IsWalk : (ℕ → ℕ → Type 0) → List ℕ → ℕ → Type 0
IsWalk E [] b = ⊥
IsWalk E (a ∷ []) b = E a b
IsWalk E (a ∷ (c ∷ s)) b = E a c × IsWalk E (c ∷ s) b

abbrev pub HasWalk : Graph → ℕ → ℕ → Type 0
HasWalk g a b = (s : List ℕ) × IsWalk (HasEdge g) (a ∷ s) b

-- each edge leads to a vertex
abbrev pub AreEdges : Graph → Type 0
AreEdges g = (a b : ℕ) → HasEdge g a b → b < length g
