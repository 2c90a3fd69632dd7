use Rattle.std.proofs.Common.{arith, ◌≡◌, ap, ◌∙◌}
use Rattle.std.proofs.lemmas.Grind.{common_steps}
use Rattle.std.specs.Option.{option_map}
use Rattle.pst_ast.specs.BodyView.{view_boxed_value}
use Rattle.pst_ast.specs.SharedView.{view_plain}
use Rattle.pst_elab_rules.specs.Bodies.{value_source}
use Rattle.pst_elab_rules.specs.Spans.{plain_span}
use Rattle.pst_model.specs.BodyTree.{Declare}
use Rattle.pst_model.specs.ModelView.{view_source}
use Rattle.pst_path_readings.specs.Set.{view_setting}
use Rattle.pst_sources.specs.Shown.{sources_of}
use Rattle.pst_terms.specs.Readings.{Setting}
use Rattle.pst_body_parts.proofs.single.declare.Goals as goal

pub returns-clause-step : goal.returns-clause-step
returns-clause-step c =
    let s = sources_of c.args.numbered.now in
    let setting = view_setting c.args.setting.now in
    let value = option_map view_boxed_value c.args.value.now in
    let range : c.in_ok-range.range ≡ plain_span s (view_plain c.args.plain.now) = grind (arith, common_steps) in
    let first : option_map view_source c.in_ok-first.first ≡ option_map (value_source s setting) value = c.in_ok-first.ensures ∙ ap (λ (st : Setting). option_map (value_source s st) value) c.in_ok-local.ensures.kept in
    (λ i. Declare (c.in_ok-local.ensures.number i) (range i) (first i))
