-- The choices of a walk, latest first.
use Rattle.std.specs.Prelude.{ℕ, List, [], ◌∷◌, ◌++◌, Option, None, Some}
use Rattle.pst_shape_steps.specs.declared.pending.At.{At}
use Rattle.pst_shape.specs.declared.walk.Made.{Made}
use Rattle.pst_shape.specs.declared.walk.Growth.{Growth}
use Rattle.pst_shape_parts.specs.Trees.{Tree, taken_back}

abbrev pub digits_of : List Made → List ℕ
digits_of [] = []
digits_of (h ∷ older) = digits_of older ++ h.digit ∷ []

-- where reading stands after them
abbrev pub at_after : At → List Made → At
at_after start [] = start
at_after start (h ∷ older) = h.at

abbrev pub node_count : List Made → ℕ
node_count [] = 0
node_count (h ∷ older) = h.nodes

abbrev pub leaf_count : List Made → ℕ
leaf_count [] = 0
leaf_count (h ∷ older) = h.leaves

-- the value that a choice gave an action is gone
abbrev pub undone : Option ℕ → Tree → Tree
undone None t = t
undone (Some n) t = taken_back t n

-- what the last of them added
abbrev pub growth_after : List Made → Option Growth
growth_after [] = None
growth_after (h ∷ older) = Some (record { nodes = node_count older; leaves = leaf_count older; value = h.value })
