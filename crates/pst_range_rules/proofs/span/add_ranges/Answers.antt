use Rattle.std.proofs.Common.{◌≡◌, ◌++◌, List, map, OnOk, arith, sym, subst}
use Rattle.std.proofs.lemmas.Grind.{common_steps}
use Rattle.pst_ast.specs.ExpressionTree.{RangeTree}
use Rattle.pst_range_rules.specs.Facts.{constant_at}
use Rattle.pst_range_rules.specs.Spans.{range_span}
use Rattle.pst_range_rules.proofs.Rows.{ranges_are}
use Rattle.pst_range_rules.proofs.span.add_ranges.Goals as goal

pub returns : goal.returns
returns c =
    subst (λ (rs : List RangeTree). OnOk c.add_rest.result (c.add_rest.new.found.items ≡ c.args.found.now.items ++ map (range_span (constant_at c.args.facts.now c.args.at.now)) rs))
    (sym (ranges_are c.args.ranges.now))
    (grind (arith, common_steps))
