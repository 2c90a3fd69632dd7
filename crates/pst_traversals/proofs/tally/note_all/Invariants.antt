use Rattle.std.proofs.Common.{◌≡◌, drop}
use Rattle.std.specs.List.{fold}
use Rattle.std.specs.HashMap.{get}
use Rattle.pst_traversals.specs.declared.tally.TallyKey.{TallyKey}
use Rattle.pst_traversals.specs.Tallied.{noted, same_key, withins_at}
use Rattle.pst_traversals.proofs.tally.note_all.Given as goal

abbrev pub invariant-loop-traversed : goal.invariant-loop-traversed
invariant-loop-traversed l =
    (q : TallyKey) → fold noted (get same_key l.tallies q) (withins_at l.action q (drop l.traversed-index l.traversals)) ≡ fold noted (get same_key l.initial.tallies q) (withins_at l.action q l.traversals)
