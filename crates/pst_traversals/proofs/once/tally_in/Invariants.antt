use Rattle.std.proofs.Common.{◌≡◌, drop}
use Rattle.std.specs.List.{fold}
use Rattle.pst_traversals.specs.Listed.{withins}
use Rattle.pst_traversals.specs.Tallied.{noted, tally}
use Rattle.pst_traversals.proofs.once.tally_in.Given as goal

abbrev pub invariant-loop-traversed : goal.invariant-loop-traversed
invariant-loop-traversed l = fold noted l.so_far (withins l.handle (drop l.traversed-index l.traversals)) ≡ tally (withins l.handle l.traversals)
