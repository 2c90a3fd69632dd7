use Rattle.std.proofs.Common.{◌≡◌, ◌++◌, drop}
use Rattle.pst_list_values.proofs.copies.copy_firsts.Given as goal

abbrev pub invariant-loop-first : goal.invariant-loop-first
invariant-loop-first l = l.copy.items ++ drop l.first-index l.firsts ≡ l.firsts
