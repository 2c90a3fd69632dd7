use Rattle.std.proofs.Common.{sym, ap, ◌∙◌}
use Rattle.std.specs.Prelude.{slice_get}
use Rattle.pst_refusals.proofs.Steps.{got}
use Rattle.pst_tests_search.proofs.Roots.{concrete}
use Rattle.pst_tests_search.proofs.asked.is_concrete.Goals as goal

pub returns-in-Some : goal.returns-in-Some
returns-in-Some c =
    concrete c.args.model.now c.args.root c.in-Some.action.now
    (ap (λ actions. slice_get actions c.args.root) (sym c.deref.ensures.value)
    ∙ got c.deref.result.now c.args.root c.get.result c.in-Some.action c.get.ensures.lookup.0 c.get.ensures.lookup.1 c.in-Some.is)
