use Rattle.std.proofs.Common.{◌≡◌, drop}
use Rattle.pst_source_rules.specs.Rooted.{has_home_in}
use Rattle.pst_source_rules.proofs.root.has_home.Given as goal

abbrev pub invariant-loop-instance : goal.invariant-loop-instance
invariant-loop-instance l = has_home_in l.index (drop l.instance-index l.instances) l.action ≡ has_home_in l.index l.instances l.action
