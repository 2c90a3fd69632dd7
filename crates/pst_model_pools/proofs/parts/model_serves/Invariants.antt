use Rattle.std.proofs.Common.{◌≡◌, ◌++◌, drop, map}
use Rattle.pst_elab_rules.specs.Model.{serve_of}
use Rattle.pst_model_pools.proofs.parts.model_serves.Given as goal

abbrev pub invariant-loop-one : goal.invariant-loop-one
invariant-loop-one l = l.serves.items ++ map serve_of (drop l.one-index l.served) ≡ map serve_of l.served
