use Rattle.std.proofs.Common.{List, subst}
use Rattle.std.proofs.lemmas.Result.{IfOk-weaker}
use Rattle.pst_type_rules.specs.declared.typed.ConstantValue.{ConstantValue}
use Rattle.pst_typed_uses.specs.InOrder.{HaveSame}
use Rattle.pst_typed_uses.proofs.InOrder.{same_by_sort}
use Rattle.pst_typed_uses.proofs.in_order.in_order.Goals as goal

pub returns-clause-each : goal.returns-clause-each
returns-clause-each c = IfOk-weaker c.each_once.result (λ found. HaveSame found.items c.as_slice.result.now) (λ found. HaveSame found.items c.args.constants.items)
    (λ found same. same_by_sort c.args.constants.items c.sort_by_place.new.constants.items found.items c.sort_by_place.ensures.same (subst (λ (sorted : List ConstantValue). HaveSame found.items sorted) c.as_slice.ensures.value same))
    c.each_once.ensures.each
