-- What the program holds of contexts, branches and arms, as the definitions see it.
use Rattle.std.specs.Prelude.{ℕ, List, [], ◌∷◌, if◌then◌else◌}
use Rattle.pst_model.specs.ActivityTree.{BranchTree, guard_of}
use Rattle.pst_model.specs.ModelView.{view_branch}
use Rattle.pst_legal.specs.Pieces.{Context, holds_in}
use Rattle.pst_shape_parts.specs.declared.context.Frame.{Frame}
use Rattle.pst_shape_parts.specs.declared.branches.Numbered.{Numbered}

abbrev pub context_of : Frame → Context
context_of f = record { instance = f.instance; fields = f.fields.items; indices = f.indices.items }

abbrev pub view_numbered : Numbered → ℕ × BranchTree
view_numbered n = (n.number, view_branch n.branch.now)

-- the branch, where it may be taken
abbrev pub taken_of : Context → ℕ × BranchTree → List (ℕ × BranchTree)
taken_of c e = if holds_in c (guard_of e.1) then e ∷ [] else []
