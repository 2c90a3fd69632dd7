use Rattle.std.proofs.Common.{◌≡◌, ◌++◌, drop, map}
use Rattle.pst_model_members.proofs.locks.add_rest.Given as goal

abbrev pub invariant-loop-next : goal.invariant-loop-next
invariant-loop-next l =
    l.found.items ++ map (λ n. n.name.place) (drop l.next-index l.rest)
    ≡ l.initial.found.items ++ map (λ n. n.name.place) l.rest
