use Rattle.std.proofs.Common.{◌≡◌, ◌++◌, List, OnOk, arith, sym, subst}
use Rattle.std.proofs.lemmas.Grind.{common_steps}
use Rattle.pst_ast.specs.ExpressionTree.{RangeTree}
use Rattle.pst_range_rules.specs.Facts.{constant_at}
use Rattle.pst_field_domains.specs.Known.{known_spans}
use Rattle.pst_field_domains.proofs.Ranged.{ranges_are}
use Rattle.pst_field_domains.proofs.ranges.add_ranges.Goals as goal

pub returns : goal.returns
returns c =
    subst (λ (rs : List RangeTree). OnOk c.add_rest.result (c.add_rest.new.found.items ≡ c.args.found.now.items ++ known_spans (constant_at c.args.facts.now c.args.at.now) rs))
    (sym (ranges_are c.args.ranges.now))
    (grind (arith, common_steps))
