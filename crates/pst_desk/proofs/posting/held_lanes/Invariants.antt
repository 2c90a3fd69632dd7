use Rattle.std.proofs.Common.{◌≡◌, ◌<◌, ℕ, length, get_or, false}
use Rattle.std.specs.Prelude.{◌↔◌, IsTrue}
use Rattle.pst_scen.specs.Trace.{IsHeld}
use Rattle.pst_desk.proofs.posting.held_lanes.Given as goal

abbrev pub invariant-loop-lane : goal.invariant-loop-lane
invariant-loop-lane l = record {
  many : length l.held ≡ 16;
  are : (k : ℕ) → k < l.lane → IsTrue (get_or l.held k false) ↔ IsHeld l.book.trace k;
}
