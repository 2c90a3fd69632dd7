use Rattle.std.proofs.Common.{pos, negsuc, FitsSigned, w64, sym, ap, ap₂, ◌∙◌, rules}
use Rattle.std.specs.Int.{w128, int_min, int_max}
use Rattle.std.proofs.lemmas.Int.{to_z-of_z}
use Rattle.pst_domain.proofs.CutCode.{cut_between, wide_min, wide_max}
use Rattle.pst_domain.proofs.QuotientCode.{end_quotient, by_both}
use Rattle.pst_domain.proofs.arithmetic.quotient_by_both.Goals as goal

pub returns : goal.returns
returns c =
    let left = c.args.left in
    let right = c.args.right in
    let l : FitsSigned w64 right.low = search rules in
    let h : FitsSigned w64 right.high = search rules in
    let f : FitsSigned w128 c.quotient_ends-least.result.0 = search rules in
    let g : FitsSigned w128 c.quotient_ends-least.result.1 = search rules in
    let p : FitsSigned w128 c.quotient_ends-other_least.result.0 = search rules in
    let q : FitsSigned w128 c.quotient_ends-other_least.result.1 = search rules in
    let m : FitsSigned w128 c.min.result = search rules in
    let n : FitsSigned w128 c.max.result = search rules in
    let low = to_z-of_z w64 right.low l in
    let high = to_z-of_z w64 right.high h in
    let least = wide_min c.quotient_ends-least.result.0 c.quotient_ends-other_least.result.0 c.min.result f p c.min.ensures.value ∙ ap₂ int_min (c.quotient_ends-least.ensures.least ∙ ap (λ x. end_quotient int_min left x (negsuc 0)) low) (c.quotient_ends-other_least.ensures.least ∙ ap (end_quotient int_min left (pos 1)) high) in
    let greatest = wide_max c.quotient_ends-least.result.1 c.quotient_ends-other_least.result.1 c.max.result g q c.max.ensures.value ∙ ap₂ int_max (c.quotient_ends-least.ensures.greatest ∙ ap (λ x. end_quotient int_max left x (negsuc 0)) low) (c.quotient_ends-other_least.ensures.greatest ∙ ap (end_quotient int_max left (pos 1)) high) in
    c.cut.ensures ∙ cut_between c.min.result c.max.result _ _ m n least greatest ∙ sym (by_both left right c.requires.low c.requires.high)
