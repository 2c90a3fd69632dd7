use Rattle.std.proofs.Common.{◌≡◌, ◌+◌, drop}
use Rattle.pst_tree.specs.Lasts
use Rattle.pst_tree.proofs.lasts.run_from.Given as goal

abbrev pub invariant-loop-instance : goal.invariant-loop-instance
invariant-loop-instance l = record {
  counted : l.count ≡ l.instance-index;
  run : l.count + Lasts.run_from l.number (drop l.instance-index l.behind) ≡ Lasts.run_from l.number l.behind;
}
