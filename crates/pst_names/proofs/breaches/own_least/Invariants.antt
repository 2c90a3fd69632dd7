use Rattle.std.proofs.Common.{◌≡◌, drop}
use Rattle.std.specs.Prelude.{None}
use Rattle.pst_name_rules.specs.Own.{own_finding}
use Rattle.pst_name_rules.specs.Leasts.{least_at}
use Rattle.pst_names.proofs.breaches.own_least.Given as goal

abbrev pub invariant-loop-declaration : goal.invariant-loop-declaration
invariant-loop-declaration l = least_at (own_finding l.index l.names) (drop l.declaration-index l.declaration-items) l.least ≡ least_at (own_finding l.index l.names) l.index None
