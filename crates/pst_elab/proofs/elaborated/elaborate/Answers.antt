use Rattle.std.proofs.Common.{ℕ, List, subst}
use Rattle.std.specs.Prelude.{IfErr, IfOk, map}
use Rattle.pst_ast.specs.DeclarationView.{view_unit}
use Rattle.pst_elab_rules.specs.Ends.{IsElaborated}
use Rattle.pst_model.specs.ModelView.{view_model}
use Rattle.pst_source_rules.specs.Judged.{IsEnd}
use Rattle.pst_elab.proofs.elaborated.elaborate.Goals as goal

pub returns-clause-model : goal.returns-clause-model
returns-clause-model c =
    let units = map view_unit c.args.units.now in
    subst (λ (t : List ℕ). IfOk c.elaborated.result (λ found. IsElaborated units c.args.names.now t c.args.root_action.now (view_model found.0) found.1)) c.as_bytes-component.ensures.value
    (subst (λ (t : List ℕ). IfOk c.elaborated.result (λ found. IsElaborated units c.args.names.now c.as_bytes-component.result.now t (view_model found.0) found.1)) c.as_bytes-action.ensures.value c.elaborated.ensures.model)

pub returns-clause-end : goal.returns-clause-end
returns-clause-end c =
    let units = map view_unit c.args.units.now in
    subst (λ (t : List ℕ). IfErr c.elaborated.result (IsEnd units c.args.names.now t c.args.root_action.now)) c.as_bytes-component.ensures.value
    (subst (λ (t : List ℕ). IfErr c.elaborated.result (IsEnd units c.args.names.now c.as_bytes-component.result.now t)) c.as_bytes-action.ensures.value c.elaborated.ensures.end)
