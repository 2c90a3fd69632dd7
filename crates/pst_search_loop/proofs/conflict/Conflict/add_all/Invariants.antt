use Rattle.std.proofs.Common.{take}
use Rattle.pst_search_loop.specs.Conflicts.{AreAdded}
use Rattle.pst_search_loop.proofs.conflict.Conflict.add_all.Given as goal

abbrev pub invariant-loop-place : goal.invariant-loop-place
invariant-loop-place l = AreAdded l.initial.self (take l.place-index l.places) l.at l.self
