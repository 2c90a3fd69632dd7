-- The invariant of a walk.
use Rattle.std.specs.Prelude.{◌≡◌, ℕ, List, [], ◌∷◌, ◌++◌, length, reverse}
use Rattle.pst_model.specs.ModelTree.{ModelTree}
use Rattle.pst_model.specs.ModelView.{view_model}
use Rattle.pst_legal.specs.Growing.{nothing_yet}
use Rattle.pst_legal.specs.Reading.{read_tree}
use Rattle.pst_shape_steps.specs.declared.pending.At.{At}
use Rattle.pst_shape.specs.declared.walk.Made.{Made}
use Rattle.pst_shape.specs.declared.walk.Walk.TheInside.{Inside}
use Rattle.pst_shape_parts.specs.Trees.{Tree, tree_of, scenario_of, cut_to, IsGrown}
use Rattle.pst_shape_steps.specs.Pending.{read_on, IsReady, IsOpen}
use Rattle.pst_shape.specs.Walks.{Kept}
use Rattle.pst_shape.specs.Choices.{digits_of, node_count, leaf_count, undone}

-- after these choices the reading goes on from there
pub record Stands (m : ModelTree) (root seed : ℕ) (choices : List ℕ) (at : At) (t : Tree) : Type 0 where
  pub reads : (level : ℕ) (left : List ℕ) → read_tree m seed root (nothing_yet level) 0 (choices ++ left) ≡ read_on m seed at (scenario_of m level t) (length choices) left
  pub ready : IsReady at
  pub opens : IsOpen at t
  pub grown : IsGrown t

-- the walk stood so after each of its choices
abbrev pub AllStand : ModelTree → ℕ → ℕ → At → List Made → Tree → Type 0
AllStand m root seed start [] t = Stands m root seed [] start t × (length t.nodes ≡ 0) × (length t.leaves ≡ 0)
AllStand m root seed start (h ∷ older) t =
    Stands m root seed (digits_of (h ∷ older)) h.at t × (length t.nodes ≡ h.nodes) × (length t.leaves ≡ h.leaves) × AllStand m root seed start older (undone h.value (cut_to (node_count older) (leaf_count older) t))

abbrev pub kept_by : Inside → Kept
kept_by w = record { model = w.model.now; root = w.root; seed = w.seed; choices = digits_of (reverse w.made.items) }

abbrev pub IsKept : Inside → Type 0
IsKept w = AllStand (view_model w.model.now) w.root w.seed w.start (reverse w.made.items) (tree_of w.grown)
