use Rattle.std.proofs.Common.{◌≡◌, ◌∙◌, ℤ, List, ◌++◌, ◌∷◌, [], length, w64, FitsSigned, rules, to_z, of_z, ap, subst}
use Rattle.std.specs.Prelude.{Ok}
use Rattle.std.proofs.lemmas.Int.{to_z-of_z}
use Rattle.pst_value_search.specs.Made.{IsThere, GivesValue}
use Rattle.pst_value_search.proofs.Givens.{count_given, more_refused, more_given}
use Rattle.pst_value_search.proofs.valued.Valued.give.Goals as goal

pub invariant_of-self-then-is_refused : goal.invariant_of-self-then-is_refused
invariant_of-self-then-is_refused c =
    let w = c.self.inside in
    let f : FitsSigned w64 c.args.value = search rules in
    let z : to_z w64 (of_z w64 c.args.value) ≡ c.args.value = to_z-of_z w64 c.args.value f in
    record {
      kept = c.self.invariant.kept;
      values = more_refused w.narrowed w.values.items c.push_reserved.new.self.items c.args.value w.refused
          (c.push_reserved.ensures.items ∙ ap (λ (l : List ℤ). l ++ to_z w64 (of_z w64 c.args.value) ∷ []) c.reserve.ensures.items ∙ ap (λ (v : ℤ). w.values.items ++ v ∷ []) z)
          (subst (IsThere w.refused) c.if-is_refused.true c.is_some-is_refused.ensures) c.self.invariant.values;
    }

pub give_to-requires-clause-number : goal.give_to-requires-clause-number
give_to-requires-clause-number c =
    let w = c.self.inside in
    c.len-number.ensures ∙ c.reserve.ensures.len ∙ w.values.ok.0
    ∙ count_given w.narrowed w.values.items w.refused (subst (IsThere w.refused) c.if-is_refused.false c.is_some-is_refused.ensures) c.self.invariant.values

pub invariant_of-self-2 : goal.invariant_of-self-2
invariant_of-self-2 c =
    let w = c.self.inside in
    let f : FitsSigned w64 c.args.value = search rules in
    let z : to_z w64 (of_z w64 c.args.value) ≡ c.args.value = to_z-of_z w64 c.args.value f in
    let all = more_given w.narrowed c.give_to.new.narrowed w.values.items c.push_reserved-2.new.self.items c.args.value c.len-number.result w.refused c.in_ok-refused.refused
    (c.push_reserved-2.ensures.items ∙ ap (λ (l : List ℤ). l ++ to_z w64 (of_z w64 c.args.value) ∷ []) c.reserve.ensures.items ∙ ap (λ (v : ℤ). w.values.items ++ v ∷ []) z)
    (subst (IsThere w.refused) c.if-is_refused.false c.is_some-is_refused.ensures) c.self.invariant.values
    (c.len-number.ensures ∙ c.reserve.ensures.len ∙ w.values.ok.0)
    (subst (λ v. GivesValue (Ok c.in_ok-refused.refused) w.narrowed c.give_to.new.narrowed c.len-number.result v) z
    (subst (λ r. GivesValue r w.narrowed c.give_to.new.narrowed c.len-number.result (to_z w64 (of_z w64 c.args.value))) c.in_ok-refused.was c.give_to.ensures)) in
    record { kept = all.0; values = all.1 }
