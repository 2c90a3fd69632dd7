use Rattle.std.proofs.Common.{◌≡◌, ◌++◌, drop}
use Rattle.pst_copies.proofs.acts.copy_references.Given as goal

abbrev pub invariant-loop-filled : goal.invariant-loop-filled
invariant-loop-filled l = l.copy.items ++ drop l.filled-index l.references ≡ l.references
