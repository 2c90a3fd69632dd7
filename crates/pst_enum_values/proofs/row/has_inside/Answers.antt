use Rattle.std.proofs.Common.{rules, arith, sym, get_or, pos, w64, FitsSigned}
use Rattle.std.proofs.lemmas.Int.{to_z-of_z}
use Rattle.pst_enum_values.proofs.Ascending.{any_inside, none_inside}
use Rattle.pst_enum_values.proofs.row.has_inside.Goals as goal

pub returns-then-at-values : goal.returns-then-at-values
returns-then-at-values c =
    let a = c.count_below-at.ensures in
    any_inside c.args.span c.args.values.now c.count_below-at.result a.below a.above c.requires (pos 0) _ c.if-at-values.true
    (let f : FitsSigned w64 (get_or c.args.values.now c.count_below-at.result (pos 0)) = search rules in
    let g : FitsSigned w64 c.args.span.high = search rules in
    grind (arith, to_z-of_z))

pub returns-else-at-values : goal.returns-else-at-values
returns-else-at-values c =
    let a = c.count_below-at.ensures in
    sym (none_inside c.args.span c.args.values.now c.count_below-at.result a.below a.above c.requires (λ d within. absurd (omega (arith, within, c.if-at-values.false))))
