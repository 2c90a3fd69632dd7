use Rattle.std.proofs.Common.{◌≡◌, ◌∙◌, ◌<◌, ℤ, List, ◌++◌, ◌∷◌, [], length, Bool, ap, subst, arith}
use Rattle.std.specs.Prelude.{Option, option_to_list}
use Rattle.pst_value_search.specs.Made.{IsThere}
use Rattle.pst_value_search.proofs.Givens.{less_given, less_refused}
use Rattle.pst_value_search.proofs.valued.Valued.take_back.Goals as goal

pub invariant_of-self-then-not-is_refused : goal.invariant_of-self-then-not-is_refused
invariant_of-self-then-not-is_refused c =
    let w = c.self.inside in
    let less = c.pop.new.self.items in
    let split : w.values.items ≡ less ++ c.in-Some._value ∷ [] = c.pop.ensures.items ∙ ap (λ (o : Option ℤ). less ++ option_to_list o) c.in-Some.is in
    record {
      kept = c.take_back.ensures.at.kept;
      values = less_given w.narrowed c.take_back.new.self w.values.items less c.in-Some._value w.refused split
          (subst (IsThere w.refused) c.if-not-is_refused.true c.is_some-is_refused.ensures) c.self.invariant.values c.take_back.ensures;
    }

pub invariant_of-self-then-len : goal.invariant_of-self-then-len
invariant_of-self-then-len c =
    let w = c.self.inside in
    let less = c.pop.new.self.items in
    let split : w.values.items ≡ less ++ c.in-Some._value ∷ [] = c.pop.ensures.items ∙ ap (λ (o : Option ℤ). less ++ option_to_list o) c.in-Some.is in
    let one : c.len.result ≡ length less = c.len.ensures ∙ c.pop.new.self.ok.0 in
    let two : c.len-2.result ≡ length w.narrowed.given.items = c.len-2.ensures ∙ w.narrowed.given.ok.0 in
    let more = c.if-len.true in
    record {
      kept = c.self.invariant.kept;
      values = less_refused w.narrowed w.values.items less c.in-Some._value w.refused split
          (subst (IsThere w.refused) c.if-not-is_refused.false c.is_some-is_refused.ensures) (omega (arith, one, two, more)) c.self.invariant.values;
    }
