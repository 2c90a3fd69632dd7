use Rattle.std.proofs.Common.{◌≡◌, Some, Ok, sym, ap, ◌∙◌}
use Rattle.pst_tests_numbers.proofs.values.step.Goals as goal

pub advance-requires : goal.advance-requires
advance-requires c e =
    let g = c.next_value.ensures.some c.in-Some.value (c.in_ok-next_value.was ∙ ap (λ v. Ok v) c.in-Some.is) in
    absurd (let k = sym e ∙ ap (λ s. s.current.value) g.new_is in cc)
