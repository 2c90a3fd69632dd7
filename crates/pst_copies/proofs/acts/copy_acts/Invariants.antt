use Rattle.std.proofs.Common.{◌≡◌, ◌++◌, drop}
use Rattle.pst_copies.proofs.acts.copy_acts.Given as goal

abbrev pub invariant-loop-act : goal.invariant-loop-act
invariant-loop-act l = l.copy.items ++ drop l.act-index l.acts ≡ l.acts
