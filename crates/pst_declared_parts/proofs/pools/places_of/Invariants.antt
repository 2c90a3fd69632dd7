use Rattle.std.proofs.Common.{◌≡◌, ◌++◌, drop, map}
use Rattle.pst_declared_parts.proofs.pools.places_of.Given as goal

abbrev pub invariant-loop-node : goal.invariant-loop-node
invariant-loop-node l = l.places.items ++ map (λ a. a.now.name.place) (drop l.node-index l.pools) ≡ map (λ a. a.now.name.place) l.pools
