use Rattle.std.proofs.Common.{◌≡◌, ◌++◌, drop}
use Rattle.pst_tree.specs.Instances.{parts_of}
use Rattle.pst_model_pools.proofs.parts.model_parts.Given as goal

abbrev pub invariant-loop-instance : goal.invariant-loop-instance
invariant-loop-instance l = l.parts.items ++ parts_of (drop l.instance-index l.instances) ≡ parts_of l.instances
