use Rattle.std.proofs.Common.{◌≡◌, [], drop}
use Rattle.pst_base.specs.declared.position.Place.{Place}
use Rattle.pst_ast.specs.declared.leaf.Name.{Name}
use Rattle.pst_ast.specs.Uses.{target_by}
use Rattle.pst_names.proofs.judge_targets.read_target.Given as goal

abbrev pub invariant-loop-next : goal.invariant-loop-next
invariant-loop-next l =
    (component : Place) (pool : Name) → target_by component pool l.instances.items l.action l.reference (drop l.next-index l.target.rest.items) ≡ target_by component pool [] l.target.first l.target.second.name l.target.rest.items
