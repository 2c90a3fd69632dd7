use Rattle.std.proofs.Common.{◌∙◌, refl, subst}
use Rattle.pst_value_search.specs.Values.{Skips}
use Rattle.pst_value_search.specs.Made.{IsThere}
use Rattle.pst_value_search.proofs.Givens.{skips_passed, skips_nothing, same_seen, same_given}
use Rattle.pst_value_search.proofs.valued.Valued.skip.Goals as goal

-- where a value was refused before

pub returns-then-is_refused-clause-skips : goal.returns-then-is_refused-clause-skips
returns-then-is_refused-clause-skips c = skips_nothing c.args.self.now c.args.domain.now c.args.start c.args.from _ refl c.new.ensures.items c.requires.from

-- where none was

pub first_for-requires-clause-kept : goal.first_for-requires-clause-kept
first_for-requires-clause-kept c = c.self.invariant.kept

pub invariant_of-self : goal.invariant_of-self
invariant_of-self c =
    let w = c.self.inside in
    record {
      kept = c.first_for.ensures.at.kept;
      values = same_given w.narrowed c.first_for.new.narrowed w.values.items w.refused (subst (IsThere w.refused) c.if-is_refused.false c.is_some-is_refused.ensures) c.self.invariant.values c.first_for.ensures.at;
    }

pub invariant_of-self-2 : goal.invariant_of-self-2
invariant_of-self-2 c =
    let w = c.self.inside in
    record {
      kept = c.first_for.ensures.at.kept;
      values = same_given w.narrowed c.first_for.new.narrowed w.values.items w.refused (subst (IsThere w.refused) c.if-is_refused.false c.is_some-is_refused.ensures) c.self.invariant.values c.first_for.ensures.at;
    }

pub returns-in_err-found-clause-same : goal.returns-in_err-found-clause-same
returns-in_err-found-clause-same c = let w = c.self.inside in same_seen w.narrowed c.first_for.new.narrowed w.values.items c.first_for.ensures.at ∙ c.self.view_is

pub returns-clause-same : goal.returns-clause-same
returns-clause-same c = let w = c.self.inside in same_seen w.narrowed c.first_for.new.narrowed w.values.items c.first_for.ensures.at ∙ c.self.view_is

pub returns-clause-skips : goal.returns-clause-skips
returns-clause-skips c =
    let w = c.self.inside in
    subst (λ k. Skips k c.args.domain.now c.args.start c.args.from c.in_ok-found.found) c.self.view_is
    (skips_passed w.narrowed w.values.items w.refused c.len-number.result c.args.domain.now c.args.start c.args.from c.in_ok-found.found
    (subst (IsThere w.refused) c.if-is_refused.false c.is_some-is_refused.ensures) c.self.invariant.values (c.len-number.ensures ∙ w.values.ok.0) c.in_ok-found.ensures.passes)
