use Rattle.std.proofs.Common.{arith, ◌≡◌, ◌∷◌, List, map, sym, ap, ◌∙◌}
use Rattle.std.proofs.lemmas.Grind.{common_steps}
use Rattle.pst_ast.specs.ExpressionView.{view_range}
use Rattle.pst_ast.specs.declared.expression.RangesNode.{out-RangesNode}
use Rattle.pst_elab_rules.specs.Spans.{range_span}
use Rattle.pst_sources.specs.Shown.{sources_of}
use Rattle.pst_spans.specs.Rows.{as_range}
use Rattle.pst_spans.proofs.Rowed.{ranges_are}
use Rattle.pst_spans.proofs.ranges.range_spans.Goals as goal

pub returns : goal.returns
returns c =
    let s = sources_of c.args.known.now in
    let node = out-RangesNode c.args.ranges.now in
    let found : c.add_rest.new.found.items ≡ map (range_span s) (view_range node.first.value ∷ map as_range node.rest.items) = grind (arith, common_steps) in
    found ∙ sym (ap (map (range_span s)) (ranges_are c.args.ranges.now))
