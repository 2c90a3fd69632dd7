use Rattle.std.proofs.Common.{◌≡◌, ℕ, ◌<◌, [], get_or}
use Rattle.pst_scen.specs.declared.act.Filled.{Filled}
use Rattle.pst_rival_blanks.proofs.bare.are_unfilled.Given as goal

abbrev pub invariant-loop-filled : goal.invariant-loop-filled
invariant-loop-filled l = (k : ℕ) (d : Filled) → k < l.filled-index → (get_or l.references k d).values ≡ []
