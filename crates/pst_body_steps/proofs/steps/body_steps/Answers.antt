use Rattle.std.proofs.Common.{arith, ◌≡◌, ap, map, ◌∙◌}
use Rattle.std.proofs.lemmas.Grind.{common_steps}
use Rattle.pst_ast.specs.BodyView.{view_body, view_body_statement}
use Rattle.pst_elab_rules.specs.Bodies.{locals_in, statement_list}
use Rattle.pst_elab_rules.specs.Types.{setting_of}
use Rattle.pst_model.specs.ModelView.{view_body_step}
use Rattle.pst_path_readings.specs.Set.{view_setting}
use Rattle.pst_ast.specs.declared.referent.Owner.TheVariants.{OfAction}
use Rattle.pst_sources.specs.Shown.{sources_of}
use Rattle.pst_terms.specs.Readings.{Setting}
use Rattle.pst_body_parts.specs.Listed.{list_steps, with_locals}
use Rattle.pst_body_parts.proofs.Rows.{list_is}
use Rattle.pst_body_steps.proofs.steps.body_steps.Goals as goal

pub returns : goal.returns
returns c =
    let s = sources_of c.args.numbered.now in
    let action = c.args.action.now in
    let body = c.args.body.now in
    let statements = map view_body_statement body.statements.items in
    let within : view_setting c.setting_in-setting.result ≡ with_locals (setting_of action (OfAction action)) (locals_in action (view_body body)) = grind (arith, common_steps) in
    let found : map view_body_step c.add_statements.new.found.items ≡ list_steps s (view_setting c.setting_in-setting.result) 0 statements = grind (arith, common_steps) in
    found ∙ list_is s (view_setting c.setting_in-setting.result) statements ∙ ap (λ (setting : Setting). statement_list s setting statements) within
