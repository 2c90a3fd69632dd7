use Rattle.std.proofs.Common.{sym, subst}
use Rattle.pst_value_search.specs.Values.{Refuses, RefusesNothing}
use Rattle.pst_value_search.specs.Made.{kept_by, AreGiven}
use Rattle.pst_value_search.proofs.Givens.{refused_told, nothing_refused}
use Rattle.pst_value_search.proofs.valued.Valued.refusal.Goals as goal

pub returns-in-None-clause-none : goal.returns-in-None-clause-none
returns-in-None-clause-none c =
    let w = c.self.inside in
    λ e. subst RefusesNothing c.self.view_is (nothing_refused c.given_spans_refuse_nothing.ensures w.narrowed w.values.items w.refused c.in-None.is c.self.invariant.kept c.self.invariant.values)

pub returns-in-Some-clause-why : goal.returns-in-Some-clause-why
returns-in-Some-clause-why c =
    let w = c.self.inside in
    let told = refused_told w.narrowed w.values.items c.in-Some.places.items (subst (λ o. AreGiven o w.narrowed w.values.items) c.in-Some.is c.self.invariant.values) in
    subst (λ k. Refuses k c.as_slice.result.now) c.self.view_is (subst (λ ps. Refuses (kept_by w) ps) (sym c.as_slice.ensures.value) told)
