use Rattle.std.proofs.Common.{List, subst}
use Rattle.std.proofs.lemmas.Result.{IfOk-weaker}
use Rattle.pst_ast.specs.declared.entry.NameMeaning.{NameMeaning}
use Rattle.pst_numbers.specs.Meanings.{HaveSame}
use Rattle.pst_numbers.proofs.InOrder.{same_by_sort}
use Rattle.pst_numbers.proofs.in_order.in_order.Goals as goal

pub returns-clause-each : goal.returns-clause-each
returns-clause-each c = IfOk-weaker c.each_once.result (λ found. HaveSame found.items c.as_slice.result.now) (λ found. HaveSame found.items c.args.meanings.items)
    (λ found same. same_by_sort c.args.meanings.items c.sort_by_place.new.meanings.items found.items c.sort_by_place.ensures.same (subst (λ (sorted : List NameMeaning). HaveSame found.items sorted) c.as_slice.ensures.value same))
    c.each_once.ensures.each
