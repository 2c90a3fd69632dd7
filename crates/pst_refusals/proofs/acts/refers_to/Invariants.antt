use Rattle.std.proofs.Common.{◌≡◌, nat_eq, drop}
use Rattle.std.specs.List.{list_any}
use Rattle.pst_scen.specs.declared.act.Filled.{Filled}
use Rattle.pst_refusals.proofs.acts.refers_to.Given as goal

abbrev pub invariant-loop-filled : goal.invariant-loop-filled
invariant-loop-filled l = list_any (λ (filled : Filled). nat_eq filled.pool l.pool) (drop l.filled-index l.act.references) ≡ list_any (λ (filled : Filled). nat_eq filled.pool l.pool) l.act.references
