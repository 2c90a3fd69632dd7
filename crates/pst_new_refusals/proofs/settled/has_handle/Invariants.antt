use Rattle.std.proofs.Common.{◌≡◌, nat_eq, drop}
use Rattle.std.specs.List.{list_any}
use Rattle.pst_new_refusals.proofs.settled.has_handle.Given as goal

abbrev pub invariant-loop-name : goal.invariant-loop-name
invariant-loop-name l = list_any (nat_eq l.handle) (drop l.name-index l.names) ≡ list_any (nat_eq l.handle) l.names
