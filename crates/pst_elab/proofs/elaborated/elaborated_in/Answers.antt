use Rattle.std.proofs.Common.{◌≡◌, List, map, sym, subst}
use Rattle.std.specs.Prelude.{IfErr, IfOk}
use Rattle.pst_ast.specs.DeclarationView.{view_unit}
use Rattle.pst_ast.specs.declared.declaration.Unit.{Unit}
use Rattle.pst_ast.specs.Declarations.{declarations}
use Rattle.pst_elab_rules.specs.Ends.{IsElaborated}
use Rattle.pst_model.specs.ModelView.{view_model}
use Rattle.pst_source_rules.specs.Judged.{IsEnd}
use Rattle.pst_elab.proofs.elaborated.elaborated_in.Goals as goal

pub elaborated_by-requires : goal.elaborated_by-requires
elaborated_by-requires c = subst (λ (us : List Unit). c.args.index.now ≡ declarations (map view_unit us)) (sym c.in-Ok.ensures) c.requires

pub returns-in-Ok-clause-model : goal.returns-in-Ok-clause-model
returns-in-Ok-clause-model c =
    subst (λ (us : List Unit). IfOk c.elaborated_by.result (λ found. IsElaborated (map view_unit us) c.args.names.now c.args.component.now c.args.action.now (view_model found.0) found.1)) c.in-Ok.ensures c.elaborated_by.ensures.model

pub returns-in-Ok-clause-end : goal.returns-in-Ok-clause-end
returns-in-Ok-clause-end c = subst (λ (us : List Unit). IfErr c.elaborated_by.result (IsEnd (map view_unit us) c.args.names.now c.args.component.now c.args.action.now)) c.in-Ok.ensures c.elaborated_by.ensures.end
