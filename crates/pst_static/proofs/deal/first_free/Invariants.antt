use Rattle.std.proofs.Common.{◌<◌, ◌≤◌, length}
use Rattle.pst_static.specs.Loads.{IsFirstFree}
use Rattle.pst_static.proofs.deal.first_free.Given as goal

abbrev pub invariant-loop-lane : goal.invariant-loop-lane
invariant-loop-lane l = record {
  inside : l.best ≤ length l.used;
  low : l.best < length l.used → l.best < l.lane;
  first : IsFirstFree l.loads l.used l.lane l.best;
}
