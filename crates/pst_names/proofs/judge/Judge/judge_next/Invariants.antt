use Rattle.std.proofs.Common.{◌≡◌, drop, map}
use Rattle.std.specs.List.{fold}
use Rattle.pst_ast.specs.Uses.{Joins, labels_in}
use Rattle.pst_walk_parts.specs.Shown.{view_statements}
use Rattle.pst_names.specs.Judged.{judged}
use Rattle.pst_names.proofs.judge.Judge.judge_next.Given as goal

abbrev pub invariant-loop-next : goal.invariant-loop-next
invariant-loop-next l =
    fold judged l.self (map (Joins (labels_in (view_statements l.statements))) (map (λ next. next.name) (drop l.next-index l.names))) ≡ fold judged l.initial.self (map (Joins (labels_in (view_statements l.statements))) (map (λ next. next.name) l.names))
