use Rattle.std.proofs.Common.{◌≡◌, ◌++◌, drop, map}
use Rattle.pst_ast.specs.ExpressionView.{view_next_part}
use Rattle.pst_walk_parts.specs.Shown.{dotted_part}
use Rattle.pst_walk_parts.proofs.path_parts.parts_of.Given as goal

abbrev pub invariant-loop-next : goal.invariant-loop-next
invariant-loop-next l = l.parts.items ++ map (λ n. dotted_part (view_next_part n)) (drop l.next-index l.rest) ≡ map (λ n. dotted_part (view_next_part n)) l.rest
