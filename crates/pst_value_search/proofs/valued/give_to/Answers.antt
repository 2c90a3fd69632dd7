use Rattle.std.proofs.Common.{◌≡◌, ◌∙◌, ◌+◌, ◌∷◌, [], List, ℕ, map, length, nat_lt, w64, FitsSigned, rules, to_z, of_z, ap, sym, subst, length-append, arith}
use Rattle.std.specs.Prelude.{Some, Ok, Contains, filter}
use Rattle.std.proofs.lemmas.Int.{to_z-of_z}
use Rattle.pst_expr.specs.Tree.{view}
use Rattle.pst_reasons.specs.Giving.{Gives, given_too, start_of}
use Rattle.pst_reasons.specs.Reasons.{AreReasons}
use Rattle.pst_value_search.specs.Values.{point}
use Rattle.pst_value_search.proofs.Points.{few_reasons, kept_below}
use Rattle.pst_value_search.proofs.valued.give_to.Goals as goal

pub returns-in_ok-kept-in-Some : goal.returns-in_ok-kept-in-Some
returns-in_ok-kept-in-Some c =
    let old = c.args.narrowed.now in
    let new = c.give.new.self in
    let n = c.args.number in
    let es = map view old.constraints.items in
    let given = given_too old n (point c.args.value) in
    let places = c.in-Some.places.items in
    let f : FitsSigned w64 c.args.value = search rules in
    let z : to_z w64 (of_z w64 c.args.value) ≡ c.args.value = to_z-of_z w64 c.args.value f in
    let first = subst (λ r. Gives r old new n (point (to_z w64 (of_z w64 c.args.value)))) (c.in_ok-give.was ∙ ap (λ o. Ok o) c.in-Some.is) c.give.ensures in
    let told = subst (λ v. Gives (Ok (Some c.in-Some.places)) old new n (point v)) z first in
    let same : c.in_ok-kept-in-Some.kept.items ≡ filter (λ i. nat_lt i (n + 1)) places = c.in_ok-kept-in-Some.ensures ∙ ap (filter (λ i. nat_lt i (n + 1))) c.as_slice.ensures.value in
    let long = length-append old.given.items (record { variable = n; span = point c.args.value } ∷ []) in
    let own = c.requires.number in
    let many : length given ≡ n + 1 = omega (arith, long, own) in (
      told.0,
      subst (AreReasons es given (start_of old)) (sym same) (few_reasons es given (n + 1) (start_of old) places many told.1),
      λ i there. kept_below (n + 1) places i (subst (λ (xs : List ℕ). Contains xs i) same there),
    )
