use Rattle.std.proofs.Common.{rules, ◌≡◌, List, length, map, true, false, Ok, refl, sym, subst, ap, ◌∙◌}
use Rattle.pst_expr.specs.declared.tree.Expr.{Expr}
use Rattle.pst_expr.specs.Tree.{view}
use Rattle.pst_narrow.specs.Trail.{put_back}
use Rattle.pst_narrow.specs.Solutions.{AreMet}
use Rattle.pst_narrow.specs.Narrowing.{Narrows, HaveNone, HaveVariablesBelow, AreOpen}
use Rattle.pst_narrow.specs.Watch.{IsWatch}
use Rattle.pst_narrow.proofs.NarrowLemmas.{not_is_true, not_is_false}
use Rattle.pst_reasons.proofs.KeepLemmas.{begun}
use Rattle.pst_reasons.proofs.reasons.Narrowed.new.Goals as goal

pub narrow-requires-clause-watch : goal.narrow-requires-clause-watch
narrow-requires-clause-watch c =
    let cs = c.args.constraints.items in
    let w = c.in_ok-watch.watch in
    subst (λ (xs : List Expr). IsWatch (map view xs) (length c.args.bounds) w) (sym c.deref-2.ensures.value)
    (subst (λ n. IsWatch (map view cs) n w) (ap length c.spans.ensures) (subst (λ (xs : List Expr). IsWatch (map view xs) (length c.spans.result.now) w) c.deref.ensures.value c.in_ok-watch.ensures))

pub returns-then-not-branch : goal.returns-then-not-branch
returns-then-not-branch c =
    let b : c.in_ok-narrow.field-0 ≡ false = first_of (cc (c.if-not-branch.true), search (rules, not_is_true, c.if-not-branch.true)) in
    subst (λ (xs : List Expr). HaveNone (AreMet (map view xs)) c.args.bounds) c.deref-2.ensures.value (c.narrow.ensures.step.refutes (c.in_ok-narrow.was ∙ ap (λ x. Ok x) b))

pub returns : goal.returns
returns c =
    let cs = c.args.constraints.items in
    let w = c.in_ok-watch.watch in
    let d = c.narrow.new.bounds in
    let narrows = c.narrow.ensures.step.narrows in
    let count = narrows.count in
    let b : c.in_ok-narrow.field-0 ≡ true = first_of (cc (c.if-not-branch.false), search (rules, not_is_false, c.if-not-branch.false)) in
    let here : IsWatch (map view cs) (length c.args.bounds) w = subst (λ n. IsWatch (map view cs) n w) (ap length c.spans.ensures) (subst (λ (xs : List Expr). IsWatch (map view xs) (length c.spans.result.now) w) c.deref.ensures.value c.in_ok-watch.ensures) in
    record {
      kept = begun (map view cs) w d _ _ _ _ _ (subst (λ n. IsWatch (map view cs) n w) (sym count) here) (subst (λ n. HaveVariablesBelow n (map view cs)) (sym count) c.requires.variables) narrows.upright
          (subst (λ (xs : List Expr). AreOpen (map view xs) d) c.deref-2.ensures.value (c.narrow.ensures.unrefused (c.in_ok-narrow.was ∙ ap (λ x. Ok x) b))) c.new-2.ensures c.new-3.ensures.items c.new-4.ensures.items c.new-5.ensures.items;
      constraints_same = refl;
      none_given = c.new-4.ensures.items;
      narrows = subst (Narrows (AreMet (map view cs)) c.args.bounds) (sym (ap (λ t. put_back t d) c.new-2.ensures)) (subst (λ (xs : List Expr). Narrows (AreMet (map view xs)) c.args.bounds d) c.deref-2.ensures.value narrows);
    }
