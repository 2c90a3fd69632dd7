use Rattle.std.proofs.Common.{◌≡◌, ◌++◌, drop, map}
use Rattle.pst_ast.specs.Declarations.{member}
use Rattle.pst_collect.proofs.collect_member.add_next_names.Given as goal

abbrev pub invariant-loop-next : goal.invariant-loop-next
invariant-loop-next l = l.found.items ++ map (member l.owner l.sort) (map (λ n. n.name) (drop l.next-index l.names)) ≡ l.initial.found.items ++ map (member l.owner l.sort) (map (λ n. n.name) l.names)
