use Rattle.std.proofs.Common.{length, Ok, subst, ap, ◌∙◌}
use Rattle.pst_reasons.specs.Giving.{Gives}
use Rattle.pst_fitting.specs.Places.{AreAdded}
use Rattle.pst_fitting.proofs.FittingLemmas.{some_given, given_and_back, refused}
use Rattle.pst_fitting.proofs.trial.can_give.Goals as goal

pub take_back-requires-clause-kept : goal.take_back-requires-clause-kept
take_back-requires-clause-kept c = (subst (λ r. Gives r c.args.narrowed.now c.give.new.self c.args.variable c.args.span) (c.in_ok-give.was ∙ ap (λ o. Ok o) c.in-None.is) c.give.ensures).kept

pub take_back-requires-clause-some : goal.take_back-requires-clause-some
take_back-requires-clause-some c = some_given c.args.narrowed.now c.give.new.self c.args.variable c.args.span (subst (λ r. Gives r c.args.narrowed.now c.give.new.self c.args.variable c.args.span) (c.in_ok-give.was ∙ ap (λ o. Ok o) c.in-None.is) c.give.ensures)

pub returns-in_err-give-clause-at : goal.returns-in_err-give-clause-at
returns-in_err-give-clause-at c = subst (λ r. Gives r c.args.narrowed.now c.give.new.self c.args.variable c.args.span) c.in_err-give.was c.give.ensures

pub returns-in-None-clause-at : goal.returns-in-None-clause-at
returns-in-None-clause-at c = given_and_back c.args.narrowed.now c.give.new.self c.take_back.new.self c.args.variable c.args.span (subst (λ r. Gives r c.args.narrowed.now c.give.new.self c.args.variable c.args.span) (c.in_ok-give.was ∙ ap (λ o. Ok o) c.in-None.is) c.give.ensures) c.take_back.ensures

pub returns-in_err-add_places-in-Some-clause-at : goal.returns-in_err-add_places-in-Some-clause-at
returns-in_err-add_places-in-Some-clause-at c = (subst (λ r. Gives r c.args.narrowed.now c.give.new.self c.args.variable c.args.span) (c.in_ok-give.was ∙ ap (λ o. Ok o) c.in-Some.is) c.give.ensures).0

pub returns-in_ok-add_places-in-Some-clause-at : goal.returns-in_ok-add_places-in-Some-clause-at
returns-in_ok-add_places-in-Some-clause-at c = (subst (λ r. Gives r c.args.narrowed.now c.give.new.self c.args.variable c.args.span) (c.in_ok-give.was ∙ ap (λ o. Ok o) c.in-Some.is) c.give.ensures).0

pub returns-in_ok-add_places-in-Some-clause-tries : goal.returns-in_ok-add_places-in-Some-clause-tries
returns-in_ok-add_places-in-Some-clause-tries c =
    let s = c.args.narrowed.now in
    let told = subst (λ r. Gives r s c.give.new.self c.args.variable c.args.span) (c.in_ok-give.was ∙ ap (λ o. Ok o) c.in-Some.is) c.give.ensures in
    let size = c.len.ensures ∙ (c.give.new.self.given.ok.0 ∙ ap length told.0.given_is) in
    refused s c.args.variable c.args.span c.in-Some.places.items c.len.result c.args.reasons.now.items c.add_places.new.reasons.items size c.requires.below told.1
    (subst (λ ps. AreAdded ps c.len.result c.args.reasons.now.items c.add_places.new.reasons.items) c.as_slice.ensures.value c.in_ok-add_places-in-Some.ensures)
