use Rattle.std.proofs.Common.{◌≡◌, drop, map}
use Rattle.std.specs.List.{fold}
use Rattle.pst_ast.specs.Uses.{end_use}
use Rattle.pst_walk_act.proofs.show_bind.show_next_ends.Given as goal

abbrev pub invariant-loop-next : goal.invariant-loop-next
invariant-loop-next g l = fold g.V.Visitor.step l.visitor (map (end_use l.at) (map (λ next. next.end) (drop l.next-index l.ends))) ≡ fold g.V.Visitor.step l.initial.visitor (map (end_use l.at) (map (λ next. next.end) l.ends))
