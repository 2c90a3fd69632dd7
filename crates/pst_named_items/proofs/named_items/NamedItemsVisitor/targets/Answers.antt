use Rattle.std.proofs.Common.{◌≡◌, OnOk, sym, subst, []}
use Rattle.pst_named_items.specs.Named.{Named}
use Rattle.pst_named_items.proofs.Others.{target_is_none}
use Rattle.pst_named_items.proofs.named_items.NamedItemsVisitor.targets.Goals as goal

pub returns : goal.returns
returns c = subst (λ (n : Named). OnOk c.other.result (c.other.new.self ≡ n)) (sym (target_is_none c.args.self.now c.args._component c.args._pool [] c.args._target.now.first c.args._target.now.second.name c.args._target.now.rest.items)) c.other.ensures
