use Rattle.std.proofs.Common.{◌<◌, pos, get_or, Some, slice_get, FitsSigned, w64, List, sym, ◌∙◌, ap, rules, arith}
use Rattle.std.proofs.lemmas.Int.{to_z-of_z}
use Rattle.pst_expr.specs.declared.ranges.Span.{Span}
use Rattle.pst_expr.specs.Spans.{count_of, values}
use Rattle.pst_expr.proofs.SpanLemmas.{number_at}
use Rattle.pst_expr.proofs.ranges.Domain.at.Goals as goal

pub returns-then-rest-count : goal.returns-then-rest-count
returns-then-rest-count c =
    let items = c.spans-span-items.result.now in
    let fits : FitsSigned w64 c.at.result = search rules in
    let short : c.loop-span.rest < count_of (get_or items c.loop-span.span-index (record { low = pos 0; high = pos 0 })) = omega (arith, c.count-count.ensures) in
    let found = number_at items c.loop-span.span-index c.loop-span.rest c.args.index (record { low = pos 0; high = pos 0 }) c.at.result c.loop-span-test.true c.loop-span.invariant short c.at.ensures in
    ap (λ (xs : List Span). slice_get (values xs) c.args.index) (sym c.spans-span-items.ensures.spans) ∙ found ∙ ap Some (sym (to_z-of_z w64 c.at.result fits))
