use Rattle.std.proofs.Common.{rules, ◌<◌, List, length, map, get_or, true, false, None, Ok, sym, subst, ap, ◌∙◌, arith}
use Rattle.std.proofs.lemmas.List.{get_or_default, length-map}
use Rattle.pst_expr.specs.Tree.{view}
use Rattle.pst_narrow.specs.declared.trail.Former.{Former}
use Rattle.pst_narrow.specs.Solutions.{AreMet}
use Rattle.pst_narrow.specs.Narrowing.{HaveVariablesBelow}
use Rattle.pst_narrow.specs.Watch.{IsRow}
use Rattle.pst_narrow.proofs.NarrowLemmas.{step_then, step_err}
use Rattle.pst_narrow.proofs.SettleLemmas.{at_start, settled_once, all_settled, change_below, row_numbers}
use Rattle.pst_reasons.specs.Settled.{fits, IsUnmetAt}
use Rattle.pst_reasons.proofs.NoteLemmas.{explained_then, not_false, same_step, ok_some_is, appended_none, appended_then}
use Rattle.pst_reasons.proofs.settling.settle.Goals as goal

pub loop-at-init : goal.loop-at-init
loop-at-init c = record { settling = at_start (map view c.args.constraints.now) c.args.from c.args.bounds.now c.args.trail.now c.requires.upright c.requires.changed c.requires.room c.requires.quiet; appended = appended_none c.args.steps.now.items; explained = λ given h. h }

pub constraints_of-row-requires : goal.constraints_of-row-requires
constraints_of-row-requires c =
    let u = c.loop-at.trail in
    let h = c.loop-at.invariant.settling in
    let none : Former = record { variable = 0; bound = None } in
    let below : c.loop-at.at < length u = omega (arith, c.if-at-mark.false, c.mark-in-loop-at.ensures) in
    let f = get_or u c.loop-at.at none in
    let small = change_below (length c.loop-at.bounds) c.args.from c.loop-at.at f u h.after below (get_or_default u c.loop-at.at none f below) h.changed in
    let same = h.step.narrows.count in
    let rows = c.requires.watch.rows in
    let there = ap (λ (l : List Former). (get_or l c.loop-at.at none).variable) c.formers.ensures in
    omega (arith, small, same, rows, there)

pub look_at_row-requires-clause-upright : goal.look_at_row-requires-clause-upright
look_at_row-requires-clause-upright c = c.loop-at.invariant.settling.step.narrows.upright

pub look_at_row-requires-clause-variables : goal.look_at_row-requires-clause-variables
look_at_row-requires-clause-variables c = subst (λ n. HaveVariablesBelow n (map view c.args.constraints.now)) (sym c.loop-at.invariant.settling.step.narrows.count) c.requires.variables

pub look_at_row-requires-clause-numbers : goal.look_at_row-requires-clause-numbers
look_at_row-requires-clause-numbers c n there =
    let k = row_numbers (map view c.args.constraints.now) c.args.watch.now (length c.args.bounds.now) _ c.constraints_of-row.result.now c.requires.watch c.constraints_of-row.ensures n there in
    omega (arith, k, length-map c.args.constraints.now view)

pub returns-in_err-number-clause-step : goal.returns-in_err-number-clause-step
returns-in_err-number-clause-step c =
    let P = AreMet (map view c.args.constraints.now) in
    step_err P c.args.bounds.now c.look_at_row.new.bounds c.args.trail.now c.look_at_row.new.trail (fits c.look_at_row.result) (fits c.from_residual.result) (not_false c.from_residual.result (λ o e. search rules))
    (step_then P P c.args.bounds.now c.loop-at.bounds c.look_at_row.new.bounds c.args.trail.now c.loop-at.trail c.look_at_row.new.trail (Ok true) (fits c.look_at_row.result) c.loop-at.invariant.settling.step c.look_at_row.ensures.step (λ values holds within. holds))

pub returns-in-Some-clause-step : goal.returns-in-Some-clause-step
returns-in-Some-clause-step c =
    let P = AreMet (map view c.args.constraints.now) in
    same_step P c.args.bounds.now c.look_at_row.new.bounds c.args.trail.now c.look_at_row.new.trail (fits c.look_at_row.result) (Ok false) (ap fits (c.in_ok-number.was ∙ ap (λ o. Ok o) c.in-Some.is))
    (step_then P P c.args.bounds.now c.loop-at.bounds c.look_at_row.new.bounds c.args.trail.now c.loop-at.trail c.look_at_row.new.trail (Ok true) (fits c.look_at_row.result) c.loop-at.invariant.settling.step c.look_at_row.ensures.step (λ values holds within. holds))

pub returns-in-Some-clause-explained : goal.returns-in-Some-clause-explained
returns-in-Some-clause-explained c found e =
    explained_then (map view c.args.constraints.now) c.args.steps.now.items c.loop-at.steps.items c.look_at_row.new.steps.items c.args.trail.now c.loop-at.trail c.look_at_row.new.trail c.args.bounds.now c.loop-at.bounds c.look_at_row.new.bounds c.loop-at.invariant.explained (c.look_at_row.ensures.explained c.in_ok-number.field-0 c.in_ok-number.was)

pub returns-in-Some-clause-unmet : goal.returns-in-Some-clause-unmet
returns-in-Some-clause-unmet c n e =
    subst (λ m. IsUnmetAt (map view c.args.constraints.now) m c.look_at_row.new.bounds) (ok_some_is _ n e) (c.look_at_row.ensures.unmet c.in-Some.number (c.in_ok-number.was ∙ ap (λ o. Ok o) c.in-Some.is))

pub loop-at-preserved : goal.loop-at-preserved
loop-at-preserved c =
    let es = map view c.args.constraints.now in
    let u = c.loop-at.trail in
    let none : Former = record { variable = 0; bound = None } in
    let below : c.loop-at.at < length u = omega (arith, c.if-at-mark.false, c.mark-in-loop-at.ensures) in
    let f = get_or u c.loop-at.at none in
    let row = subst (λ (l : List Former). IsRow c.args.watch.now.watching.items (get_or l c.loop-at.at none).variable c.constraints_of-row.result.now) c.formers.ensures c.constraints_of-row.ensures in
    let e = c.in_ok-number.was ∙ ap (λ o. Ok o) c.in-None.is in
    record {
      settling = settled_once es c.args.watch.now (length c.args.bounds.now) c.args.from c.loop-at.at f c.constraints_of-row.result.now c.args.bounds.now c.loop-at.bounds c.look_at_row.new.bounds c.args.trail.now u c.look_at_row.new.trail (fits c.look_at_row.result) c.requires.watch below (get_or_default u c.loop-at.at none f below) row c.loop-at.invariant.settling c.look_at_row.ensures.step (c.look_at_row.ensures.looked e);
      appended = appended_then c.args.steps.now.items c.loop-at.steps.items c.look_at_row.new.steps.items c.loop-at.invariant.appended c.look_at_row.ensures.appended;
      explained = explained_then es c.args.steps.now.items c.loop-at.steps.items c.look_at_row.new.steps.items c.args.trail.now u c.look_at_row.new.trail c.args.bounds.now c.loop-at.bounds c.look_at_row.new.bounds c.loop-at.invariant.explained (c.look_at_row.ensures.explained c.in_ok-number.field-0 c.in_ok-number.was);
    }

pub returns-then-at-mark-clause-step : goal.returns-then-at-mark-clause-step
returns-then-at-mark-clause-step c = c.loop-at.invariant.settling.step

pub returns-then-at-mark-clause-unrefused : goal.returns-then-at-mark-clause-unrefused
returns-then-at-mark-clause-unrefused c e = all_settled (map view c.args.constraints.now) c.args.from c.loop-at.at c.args.bounds.now c.loop-at.bounds c.args.trail.now c.loop-at.trail (omega (arith, c.if-at-mark.true, c.mark-in-loop-at.ensures)) c.loop-at.invariant.settling

pub returns-then-at-mark-clause-explained : goal.returns-then-at-mark-clause-explained
returns-then-at-mark-clause-explained c found e = c.loop-at.invariant.explained

pub returns-in_err-number-clause-appended : goal.returns-in_err-number-clause-appended
returns-in_err-number-clause-appended c = appended_then c.args.steps.now.items c.loop-at.steps.items c.look_at_row.new.steps.items c.loop-at.invariant.appended c.look_at_row.ensures.appended

pub returns-in-Some-clause-appended : goal.returns-in-Some-clause-appended
returns-in-Some-clause-appended c = appended_then c.args.steps.now.items c.loop-at.steps.items c.look_at_row.new.steps.items c.loop-at.invariant.appended c.look_at_row.ensures.appended

pub returns-then-at-mark-clause-appended : goal.returns-then-at-mark-clause-appended
returns-then-at-mark-clause-appended c = c.loop-at.invariant.appended

pub returns-clause-appended : goal.returns-clause-appended
returns-clause-appended c = c.loop-at.invariant.appended
