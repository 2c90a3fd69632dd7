use Rattle.std.proofs.Common.{List, length, map, drop, Ok, refl, sym, subst, ap, ◌∙◌, arith}
use Rattle.pst_expr.specs.declared.tree.Expr.{Expr}
use Rattle.pst_expr.specs.Tree.{view}
use Rattle.pst_narrow.specs.Narrowing.{HaveVariablesBelow, AreOpen}
use Rattle.pst_narrow.specs.Watch.{IsWatch}
use Rattle.pst_narrow.specs.Settled.{QuietAreOpen}
use Rattle.pst_reasons.specs.Reasons.{AreReasons}
use Rattle.pst_reasons.specs.Settled.{KeepExplained}
use Rattle.pst_reasons.proofs.KeepLemmas.{start_extends}
use Rattle.pst_reasons.proofs.FirstLemmas.{noted_all}
use Rattle.pst_reasons.proofs.reasons.Narrowed.settle_from.Goals as goal

pub settle-requires-clause-watch : goal.settle-requires-clause-watch
settle-requires-clause-watch c = subst (λ (xs : List Expr). IsWatch (map view xs) (length c.args.self.now.bounds) c.args.self.now.watch) (sym c.deref.ensures.value) c.requires.watch

pub settle-requires-clause-variables : goal.settle-requires-clause-variables
settle-requires-clause-variables c = subst (λ (xs : List Expr). HaveVariablesBelow (length c.args.self.now.bounds) (map view xs)) (sym c.deref.ensures.value) c.requires.variables

pub settle-requires-clause-quiet : goal.settle-requires-clause-quiet
settle-requires-clause-quiet c = subst (λ (xs : List Expr). QuietAreOpen (map view xs) (drop c.args.mark c.args.self.now.trail) c.args.self.now.bounds) (sym c.deref.ensures.value) c.requires.quiet

pub reasons-requires-clause-explained : goal.reasons-requires-clause-explained
reasons-requires-clause-explained c =
    let s = c.args.self.now in
    (subst (λ (xs : List Expr). KeepExplained (map view xs) s.steps.items c.settle.new.steps.items s.trail c.settle.new.trail s.bounds c.settle.new.bounds) c.deref.ensures.value (c.settle.ensures.explained _ c.in_ok-found.was)) s.given.items c.requires.explained

pub reasons-requires-clause-firsts : goal.reasons-requires-clause-firsts
reasons-requires-clause-firsts c =
    let s = c.args.self.now in
    noted_all s.trail c.settle.new.trail c.formers.result.now c.args.mark s.firsts.items c.note_changes.new.firsts.items s.bounds c.settle.new.bounds c.formers.ensures c.settle.ensures.step.extends c.requires.room c.requires.firsts c.note_changes.ensures

pub returns-in_err-found-clause-narrower : goal.returns-in_err-found-clause-narrower
returns-in_err-found-clause-narrower c = record { constraints = refl; watch = refl; given_is = refl; marks = refl; count = c.settle.ensures.step.narrows.count; inside = c.settle.ensures.step.narrows.inside; extends = c.settle.ensures.step.extends; steps = c.settle.ensures.appended; firsts = λ v. omega arith }

pub returns-in-None-clause-narrower : goal.returns-in-None-clause-narrower
returns-in-None-clause-narrower c = record { constraints = refl; watch = refl; given_is = refl; marks = refl; count = c.settle.ensures.step.narrows.count; inside = c.settle.ensures.step.narrows.inside; extends = c.settle.ensures.step.extends; steps = c.settle.ensures.appended; firsts = c.note_changes.ensures.no_later }

pub returns-in-None-clause-settles : goal.returns-in-None-clause-settles
returns-in-None-clause-settles c =
    let s = c.args.self.now in
    record {
      upright = c.settle.ensures.step.narrows.upright;
      unrefused = subst (λ (xs : List Expr). AreOpen (map view xs) c.settle.new.bounds) c.deref.ensures.value (c.settle.ensures.unrefused (c.in_ok-found.was ∙ ap (λ o. Ok o) c.in-None.is));
      explained = (subst (λ (xs : List Expr). KeepExplained (map view xs) s.steps.items c.settle.new.steps.items s.trail c.settle.new.trail s.bounds c.settle.new.bounds) c.deref.ensures.value (c.settle.ensures.explained _ c.in_ok-found.was)) s.given.items c.requires.explained;
      firsts = noted_all s.trail c.settle.new.trail c.formers.result.now c.args.mark s.firsts.items c.note_changes.new.firsts.items s.bounds c.settle.new.bounds c.formers.ensures c.settle.ensures.step.extends c.requires.room c.requires.firsts c.note_changes.ensures;
    }

pub returns-in_err-places-in-Some-clause-narrower : goal.returns-in_err-places-in-Some-clause-narrower
returns-in_err-places-in-Some-clause-narrower c = record { constraints = refl; watch = refl; given_is = refl; marks = refl; count = c.settle.ensures.step.narrows.count; inside = c.settle.ensures.step.narrows.inside; extends = c.settle.ensures.step.extends; steps = c.settle.ensures.appended; firsts = c.note_changes.ensures.no_later }

pub returns-in_ok-places-in-Some-clause-narrower : goal.returns-in_ok-places-in-Some-clause-narrower
returns-in_ok-places-in-Some-clause-narrower c = record { constraints = refl; watch = refl; given_is = refl; marks = refl; count = c.settle.ensures.step.narrows.count; inside = c.settle.ensures.step.narrows.inside; extends = c.settle.ensures.step.extends; steps = c.settle.ensures.appended; firsts = c.note_changes.ensures.no_later }

pub returns-in_ok-places-in-Some-clause-settles : goal.returns-in_ok-places-in-Some-clause-settles
returns-in_ok-places-in-Some-clause-settles c =
    let s = c.args.self.now in
    let places = c.in_ok-places-in-Some.places.items in
    subst (λ z. AreReasons (map view s.constraints.items) s.given.items z places) (start_extends s.trail c.settle.new.trail s.bounds c.settle.new.bounds c.settle.ensures.step.extends) c.in_ok-places-in-Some.ensures
