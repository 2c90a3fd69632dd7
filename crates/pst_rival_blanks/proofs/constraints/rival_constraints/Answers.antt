use Rattle.std.proofs.Common.{sym, ap, subst, ◌∙◌, map}
use Rattle.std.proofs.lemmas.Result.{IfOk-weaker}
use Rattle.pst_expr.specs.Tree.{view}
use Rattle.pst_model.specs.ModelView.{view_model}
use Rattle.pst_rival_blanks.specs.Pairs.{differing, AreMetWherePlanned}
use Rattle.pst_rival_blanks.proofs.Constrained.{are_met}
use Rattle.pst_rival_blanks.proofs.constraints.rival_constraints.Goals as goal

pub returns : goal.returns
returns c =
    let m = view_model c.args.model.now in
    let s = c.args.scenario.now in
    IfOk-weaker c.differing.result _ _
    (λ es same. subst (AreMetWherePlanned m s) (sym (same ∙ ap (map differing) c.deref.ensures.value)) (are_met m c.requires.sound s c.in_ok-pairs.pairs.items c.in_ok-pairs.ensures))
    c.differing.ensures
