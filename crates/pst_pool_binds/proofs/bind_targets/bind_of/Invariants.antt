use Rattle.std.proofs.Common.{◌≡◌, [], drop}
use Rattle.pst_ast.specs.Uses.{target_by}
use Rattle.pst_pool_binds.proofs.bind_targets.bind_of.Given as goal

abbrev pub invariant-loop-next : goal.invariant-loop-next
invariant-loop-next l =
    target_by l.component l.pool l.instances.items l.action l.need (drop l.next-index l.target.rest.items) ≡ target_by l.component l.pool [] l.target.first l.target.second.name l.target.rest.items
