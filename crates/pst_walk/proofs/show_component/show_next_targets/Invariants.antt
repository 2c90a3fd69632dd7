use Rattle.std.proofs.Common.{◌≡◌, drop, map}
use Rattle.std.specs.List.{flat_map, fold}
use Rattle.pst_ast.specs.DeclarationView.{view_next_target}
use Rattle.pst_ast.specs.Uses.{next_target, target_use}
use Rattle.pst_walk.proofs.show_component.show_next_targets.Given as goal

abbrev pub invariant-loop-next : goal.invariant-loop-next
invariant-loop-next g l = fold g.V.Visitor.step l.visitor (map (target_use l.component l.pool) (map next_target (map view_next_target (drop l.next-index l.targets)))) ≡ fold g.V.Visitor.step l.initial.visitor (map (target_use l.component l.pool) (map next_target (map view_next_target l.targets)))
