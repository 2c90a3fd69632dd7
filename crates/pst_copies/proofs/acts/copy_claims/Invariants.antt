use Rattle.std.proofs.Common.{◌≡◌, ◌++◌, drop}
use Rattle.pst_copies.proofs.acts.copy_claims.Given as goal

abbrev pub invariant-loop-claimed : goal.invariant-loop-claimed
invariant-loop-claimed l = l.copy.items ++ drop l.claimed-index l.claims ≡ l.claims
