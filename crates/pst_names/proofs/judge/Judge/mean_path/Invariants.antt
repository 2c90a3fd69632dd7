use Rattle.std.proofs.Common.{◌≡◌, ◌++◌, ◌∷◌, [], drop, map}
use Rattle.pst_ast.specs.Scopes.{meant_each}
use Rattle.pst_names.proofs.judge.Judge.mean_path.Given as goal

abbrev pub invariant-loop-referent : goal.invariant-loop-referent
invariant-loop-referent l =
    record l.self { meant = l.self.meant ++ meant_each (l.name ∷ map (λ p. p.name) l.left) (drop l.referent-index l.path.before ++ l.path.last ∷ []) } ≡ record l.initial.self { meant = l.initial.self.meant ++ meant_each (map (λ p. p.name) (l.fn.first ∷ l.rest)) (l.path.before ++ l.path.last ∷ []) }
