use Rattle.std.proofs.Common.{◌≡◌, ℤ, w64, FitsSigned, rules, to_z, of_z, subst, ◌∙◌}
use Rattle.std.proofs.lemmas.Int.{to_z-of_z}
use Rattle.pst_list_values.specs.Tied.{IsWithValue}
use Rattle.pst_list_values.proofs.Steps.{further_with}
use Rattle.pst_list_values.proofs.behind.Behind.further.Goals as goal

pub returns : goal.returns
returns c =
    let n = c.number_of-number.result in
    let new = c.in_ok-further.further in
    let f : FitsSigned w64 n = search rules in
    let z : to_z w64 (of_z w64 n) ≡ n = to_z-of_z w64 n f in
    let e : n ≡ c.in-Some._known = c.number_of-number.ensures in
    further_with c.args.self c.args.value c.in-Some._known new c.in-Some.is (subst (λ (v : ℤ). IsWithValue c.args.self v new) (z ∙ e) c.in_ok-further.ensures)
