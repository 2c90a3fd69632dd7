use Rattle.std.proofs.Common.{arith, ◌≡◌, List, ap, map, ◌∙◌}
use Rattle.std.proofs.lemmas.Grind.{common_steps}
use Rattle.std.specs.List.{filter_map}
use Rattle.pst_ast.specs.declared.activity.StatementNode.{StatementNode}
use Rattle.pst_ast.specs.ActivityView.{view_statement}
use Rattle.pst_elab_rules.specs.Steps.{statement_step}
use Rattle.pst_elab_rules.specs.Ties.{ties_in}
use Rattle.pst_elab_rules.specs.Types.{setting_of}
use Rattle.pst_model.specs.ModelTree.{Compound}
use Rattle.pst_body_steps.specs.PassedOn.{view_setting}
use Rattle.pst_ast.specs.declared.referent.Owner.TheVariants.{OfAction}
use Rattle.pst_sources.specs.Shown.{Shown, sources_of}
use Rattle.pst_contents.proofs.contents.compound.Goals as goal

pub returns : goal.returns
returns c =
    let s = sources_of c.args.numbered.now in
    let text_of = c.args.text_of.now in
    let setting = setting_of text_of (OfAction text_of) in
    let found = view_setting c.setting_in-setting.result in
    let statements = map view_statement c.as_slice-statements.result.now in
    let within : found ≡ setting = grind (arith, common_steps) in
    let written = ap (λ (xs : List StatementNode). map view_statement xs) c.as_slice-statements.ensures.value in
    let binds = c.in_ok-binds.ensures ∙ ap (λ (x : Shown). ties_in (sources_of x) found statements) c.sources-sources.ensures ∙ (λ i. ties_in s (within i) (written i)) in
    let steps = c.in_ok-steps.ensures ∙ (λ i. filter_map (statement_step s (within i) 0) (written i)) in
    (λ i. Compound (record { handles = c.in_ok-handles.ensures i; steps = steps i; binds = binds i }))
