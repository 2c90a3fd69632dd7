use Rattle.std.proofs.Common.{◌≡◌, drop}
use Rattle.pst_ast.specs.NameRules
use Rattle.pst_name_rules.proofs.targets.along.Given as goal

abbrev pub invariant-loop-name : goal.invariant-loop-name
invariant-loop-name l = NameRules.along l.index l.reached (drop l.name-index l.instances) ≡ NameRules.along l.index l.fn.component l.instances
