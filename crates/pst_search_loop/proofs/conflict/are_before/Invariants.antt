use Rattle.std.proofs.Common.{ℕ, ◌<◌, take}
use Rattle.pst_search_loop.specs.Conflicts.{IsAmong}
use Rattle.pst_search_loop.proofs.conflict.are_before.Given as goal

abbrev pub invariant-loop-place : goal.invariant-loop-place
invariant-loop-place l = (p : ℕ) → IsAmong (take l.place-index l.places) p → p < l.at
