use Rattle.std.proofs.Common.{◌≡◌, ◌++◌, drop, map}
use Rattle.pst_step_parts.proofs.joins.add_rest.Given as goal

abbrev pub invariant-loop-next : goal.invariant-loop-next
invariant-loop-next l = l.found.items ++ map (λ n. n.name.id) (drop l.next-index l.rest) ≡ l.initial.found.items ++ map (λ n. n.name.id) l.rest
