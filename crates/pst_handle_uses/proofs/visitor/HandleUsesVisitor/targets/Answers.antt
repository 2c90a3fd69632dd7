use Rattle.std.proofs.Common.{sym, []}
use Rattle.pst_handle_uses.proofs.Nothing.{target_handled}
use Rattle.pst_handle_uses.proofs.visitor.HandleUsesVisitor.targets.Goals as goal

pub returns : goal.returns
returns c = sym (target_handled c.args.self.now c.args._component c.args._pool [] c.args._target.now.first c.args._target.now.second.name c.args._target.now.rest.items)
