use Rattle.std.proofs.Common.{◌≡◌, ◌++◌, map, drop}
use Rattle.std.specs.List.{enumerate_from, filter}
use Rattle.pst_model.specs.ModelView.{view_branch}
use Rattle.pst_model.specs.ActivityTree.{guard_of}
use Rattle.pst_legal.specs.Pieces.{holds_in}
use Rattle.pst_shape_parts.specs.Contexts.{context_of, view_numbered}
use Rattle.pst_shape_parts.proofs.branches.available.Given as goal

abbrev pub invariant-loop-branch : goal.invariant-loop-branch
invariant-loop-branch l = (l.number ≡ l.branch-index) × (map view_numbered l.found.items ++ filter (λ e. holds_in (context_of l.frame) (guard_of e.1)) (enumerate_from l.branch-index (map view_branch (drop l.branch-index l.branches))) ≡ filter (λ e. holds_in (context_of l.frame) (guard_of e.1)) (enumerate_from 0 (map view_branch l.branches)))
