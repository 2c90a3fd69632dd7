-- Vertices that are on no loop.
use Rattle.std.specs.Prelude.{ℕ, ◌≡◌, ◌<◌, ◌≤◌, List, Some, slice_get, slice_index_or, Bool, true}
use Rattle.pst_loops.specs.Graph.{Graph, HasEdge, HasWalk, IsIn}

abbrev pub level : List ℕ → ℕ → ℕ
level levels v = slice_index_or levels v 0

-- none of them is on a lower level
abbrev pub AreFrom : ℕ → List ℕ → List ℕ → Type 0
AreFrom least levels row = (w : ℕ) → IsIn w row → least ≤ level levels w

-- no edge of the first n vertices leads to a lower level
abbrev pub NeverFallsTo : ℕ → Graph → List ℕ → Type 0
NeverFallsTo n g levels = (v w : ℕ) → v < n → HasEdge g v w → level levels v ≤ level levels w

abbrev pub NeverFalls : Graph → List ℕ → Type 0
NeverFalls g levels = (v w : ℕ) → HasEdge g v w → level levels v ≤ level levels w

-- each edge of each that is marked leads to a higher level
abbrev pub AreRising : Graph → List ℕ → List Bool → Type 0
AreRising g levels marks = (v w : ℕ) → slice_get marks v ≡ Some true → HasEdge g v w → level levels v < level levels w

-- from each that is marked no walk leads back to it
abbrev pub AreApart : Graph → List Bool → Type 0
AreApart g marks = (v : ℕ) → slice_get marks v ≡ Some true → HasWalk g v v → ⊥
