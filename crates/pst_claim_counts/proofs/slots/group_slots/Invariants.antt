use Rattle.std.proofs.Common.{◌≡◌, ◌++◌, drop, map}
use Rattle.std.specs.Prelude.{Some}
use Rattle.pst_claim_counts.proofs.slots.group_slots.Given as goal

abbrev pub invariant-loop-group : goal.invariant-loop-group
invariant-loop-group l = l.slots.items ++ map Some (drop l.group-index l.groups) ≡ map Some l.groups
