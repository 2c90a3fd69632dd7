use Rattle.std.proofs.Common.{◌≡◌, ◌++◌, drop, map}
use Rattle.pst_ast.specs.Uses.{plain_part}
use Rattle.pst_walk_parts.proofs.path_parts.plain_parts.Given as goal

abbrev pub invariant-loop-next : goal.invariant-loop-next
invariant-loop-next l = l.parts.items ++ map (λ d. plain_part d.name) (drop l.next-index l.rest) ≡ map (λ d. plain_part d.name) l.rest
