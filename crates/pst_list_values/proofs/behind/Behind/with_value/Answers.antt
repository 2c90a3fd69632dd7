use Rattle.std.proofs.Common.{◌≡◌, Some, ℤ, w64, FitsSigned, rules, to_z, of_z, refl, ap, ◌∙◌}
use Rattle.std.proofs.lemmas.Int.{to_z-of_z}
use Rattle.pst_value_search.specs.Values.{with_value}
use Rattle.pst_list_values.proofs.Steps.{none_of, more_none, more_some}
use Rattle.pst_list_values.proofs.behind.Behind.with_value.Goals as goal

pub returns-in_default : goal.returns-in_default
returns-in_default c = (refl, refl, more_none c.args.self.valued (Some c.args.value) (none_of c.args.self.valued c.in_default.not-Some))

pub returns : goal.returns
returns c =
    let f : FitsSigned w64 c.args.value = search rules in
    let z : to_z w64 (of_z w64 c.args.value) ≡ c.args.value = to_z-of_z w64 c.args.value f in (
      refl,
      refl,
      more_some c.args.self.valued (Some c.args.value) c.in-Some.given c.give.new.self c.args.value c.in-Some.is refl (c.in_ok-give.ensures.ok ∙ ap (λ (v : ℤ). with_value c.in-Some.given v) z),
    )
