use Rattle.std.proofs.Common.{◌≡◌, ℕ, ◌<◌}
use Rattle.std.specs.Prelude.{IsFalse, length}
use Rattle.pst_steady.specs.Reached.{AreSound, IsSettled}
use Rattle.pst_steady.proofs.reach.settle_all.Given as goal

abbrev pub invariant-loop-at : goal.invariant-loop-at
invariant-loop-at l =
    record {
      sound : AreSound l.seeds l.bases l.values;
      settled : IsFalse l.changed → (i : ℕ) → i < l.at → IsSettled l.seeds l.bases l.values i;
    }
