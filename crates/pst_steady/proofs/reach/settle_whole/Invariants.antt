use Rattle.std.proofs.Common.{◌≡◌, length}
use Rattle.pst_steady.specs.Reached.{AreSound}
use Rattle.pst_steady.proofs.reach.settle_whole.Given as goal

abbrev pub invariant-loop-pass : goal.invariant-loop-pass
invariant-loop-pass l = AreSound l.seeds l.bases l.values
