use Rattle.std.proofs.Common.{◌≡◌, ◌++◌, drop}
use Rattle.pst_ast.specs.Scopes.{along_meant}
use Rattle.pst_names.proofs.judge.Judge.mean_along.Given as goal

abbrev pub invariant-loop-name : goal.invariant-loop-name
invariant-loop-name l =
    record l.self { meant = l.self.meant ++ along_meant l.self.ds l.reached (drop l.name-index l.instances) } ≡ record l.initial.self { meant = l.initial.self.meant ++ along_meant l.initial.self.ds l.fn.component l.instances }
