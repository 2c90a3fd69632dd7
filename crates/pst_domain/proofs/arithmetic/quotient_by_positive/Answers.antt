use Rattle.std.proofs.Common.{◌≡◌, pos, FitsSigned, w64, sym, ap, ap₂, ◌∙◌, rules}
use Rattle.std.specs.Int.{w128, int_min, int_max}
use Rattle.std.proofs.lemmas.Int.{to_z-of_z}
use Rattle.pst_domain.proofs.CutCode.{cut_between}
use Rattle.pst_domain.proofs.QuotientCode.{end_quotient, by_positive}
use Rattle.pst_domain.proofs.arithmetic.quotient_by_positive.Goals as goal

pub returns : goal.returns
returns c =
    let left = c.args.left in
    let right = c.args.right in
    let l : FitsSigned w64 right.low = search rules in
    let h : FitsSigned w64 right.high = search rules in
    let m : FitsSigned w64 c.max.result = search rules in
    let start : c.max.result ≡ int_max right.low (pos 1) = c.max.ensures.value ∙ ap (λ x. int_max x (pos 1)) (to_z-of_z w64 right.low l) in
    let f : FitsSigned w128 c.quotient_ends-least.result.0 = search rules in
    let g : FitsSigned w128 c.quotient_ends-least.result.1 = search rules in
    let least = c.quotient_ends-least.ensures.least ∙ ap₂ (end_quotient int_min left) (to_z-of_z w64 c.max.result m ∙ start) (to_z-of_z w64 right.high h) in
    let greatest = c.quotient_ends-least.ensures.greatest ∙ ap₂ (end_quotient int_max left) (to_z-of_z w64 c.max.result m ∙ start) (to_z-of_z w64 right.high h) in
    c.cut.ensures ∙ cut_between c.quotient_ends-least.result.0 c.quotient_ends-least.result.1 _ _ f g least greatest ∙ sym (by_positive left right c.requires.low c.requires.high)
