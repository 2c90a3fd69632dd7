use Rattle.std.proofs.Common.{FitsSigned, ap, ◌∙◌, rules}
use Rattle.std.specs.Int.{w128, int_min, int_max}
use Rattle.std.proofs.lemmas.Int.{to_z-of_z}
use Rattle.pst_domain.proofs.CutCode.{wide_min, wide_max}
use Rattle.pst_domain.proofs.arithmetic.ends.Goals as goal

pub returns-clause-least : goal.returns-clause-least
returns-clause-least c =
    let f : FitsSigned w128 c.min.result = search rules in
    let g : FitsSigned w128 c.min-2.result = search rules in
    let h : FitsSigned w128 c.min-3.result = search rules in
    let first = wide_min c.args.a c.args.b c.min.result c.ranges.a c.ranges.b c.min.ensures.value in
    let second = wide_min c.min.result c.args.c c.min-2.result f c.ranges.c c.min-2.ensures.value in
    let third = wide_min c.min-2.result c.args.d c.min-3.result g c.ranges.d c.min-3.ensures.value in
    to_z-of_z w128 c.min-3.result h ∙ third ∙ ap (λ x. int_min x c.args.d) (second ∙ ap (λ x. int_min x c.args.c) first)

pub returns-clause-greatest : goal.returns-clause-greatest
returns-clause-greatest c =
    let f : FitsSigned w128 c.max.result = search rules in
    let g : FitsSigned w128 c.max-2.result = search rules in
    let h : FitsSigned w128 c.max-3.result = search rules in
    let first = wide_max c.args.a c.args.b c.max.result c.ranges.a c.ranges.b c.max.ensures.value in
    let second = wide_max c.max.result c.args.c c.max-2.result f c.ranges.c c.max-2.ensures.value in
    let third = wide_max c.max-2.result c.args.d c.max-3.result g c.ranges.d c.max-3.ensures.value in
    to_z-of_z w128 c.max-3.result h ∙ third ∙ ap (λ x. int_max x c.args.d) (second ∙ ap (λ x. int_max x c.args.c) first)
