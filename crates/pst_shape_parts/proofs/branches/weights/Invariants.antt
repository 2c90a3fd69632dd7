use Rattle.std.proofs.Common.{◌≡◌, ◌++◌, drop, map, All}
use Rattle.pst_rng.specs.Weights.{IsWeight}
use Rattle.pst_model.specs.ActivityTree.{weight_of}
use Rattle.pst_shape_parts.specs.Contexts.{view_numbered}
use Rattle.pst_shape_parts.proofs.branches.weights.Given as goal

abbrev pub invariant-loop-taken : goal.invariant-loop-taken
invariant-loop-taken l = (l.found.items ++ map (λ e. weight_of e.1) (map view_numbered (drop l.taken-index l.branches)) ≡ map (λ e. weight_of e.1) (map view_numbered l.branches)) × All IsWeight l.found.items
