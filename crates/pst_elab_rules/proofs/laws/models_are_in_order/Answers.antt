use Rattle.std.proofs.Common.{sym, subst}
use Rattle.pst_model.specs.ModelTree.{ModelTree}
use Rattle.pst_model.specs.Preorder.{IsInstanceTree}
use Rattle.pst_model.specs.Served.{IsInOrder}
use Rattle.pst_elab_rules.proofs.InOrder.{served_in_order}
use Rattle.pst_elab_rules.proofs.laws.models_are_in_order.Goals as goal

pub returns : goal.returns
returns c = λ units names model is.
    subst (λ (m : ModelTree). IsInstanceTree m.instances × IsInOrder m.served) (sym is.is)
    (c.instances_are_in_preorder.ensures units names is.instances is.are_instances, served_in_order units is.instances)
