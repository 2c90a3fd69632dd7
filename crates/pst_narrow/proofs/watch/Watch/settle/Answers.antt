use Rattle.std.proofs.Common.{rules, ◌≡◌, ◌<◌, List, length, map, get_or, true, false, None, Ok, subst, ap, ◌∙◌, arith}
use Rattle.std.proofs.lemmas.List.{get_or_default, length-map}
use Rattle.pst_expr.specs.Tree.{view}
use Rattle.pst_narrow.specs.declared.trail.Former.{Former}
use Rattle.pst_narrow.specs.Solutions.{AreMet}
use Rattle.pst_narrow.specs.Watch.{IsRow}
use Rattle.pst_narrow.proofs.NarrowLemmas.{step_then, step_err, step_as, not_is_true, not_is_false}
use Rattle.pst_narrow.proofs.SettleLemmas.{at_start, settled_once, all_settled, change_below, row_numbers}
use Rattle.pst_narrow.proofs.watch.Watch.settle.Goals as goal

pub loop-at-init : goal.loop-at-init
loop-at-init c = at_start (map view c.args.constraints.now) c.args.from c.args.bounds.now c.args.trail.now c.requires.upright c.requires.changed c.requires.room c.requires.quiet

pub constraints_of-row-requires : goal.constraints_of-row-requires
constraints_of-row-requires c =
    let u = c.loop-at.trail in
    let h = c.loop-at.invariant in
    let none : Former = record { variable = 0; bound = None } in
    let below : c.loop-at.at < length u = omega (arith, c.if-at-mark.false, c.mark-in-loop-at.ensures) in
    let f = get_or u c.loop-at.at none in
    let small = change_below (length c.loop-at.bounds) c.args.from c.loop-at.at f u h.after below (get_or_default u c.loop-at.at none f below) h.changed in
    let same = h.step.narrows.count in
    let rows = c.requires.watch.rows in
    let there = ap (λ (l : List Former). (get_or l c.loop-at.at none).variable) c.formers.ensures in
    omega (arith, small, same, rows, there)

pub look_at_row-requires-clause-numbers : goal.look_at_row-requires-clause-numbers
look_at_row-requires-clause-numbers c n there =
    let k = row_numbers (map view c.args.constraints.now) c.args.self.now (length c.args.bounds.now) _ c.constraints_of-row.result.now c.requires.watch c.constraints_of-row.ensures n there in
    omega (arith, k, length-map c.args.constraints.now view)

pub returns-in_err-look_at_row-clause-step : goal.returns-in_err-look_at_row-clause-step
returns-in_err-look_at_row-clause-step c =
    let P = AreMet (map view c.args.constraints.now) in
    step_err P c.args.bounds.now c.look_at_row.new.bounds c.args.trail.now c.look_at_row.new.trail c.look_at_row.result c.from_residual.result (λ e. search rules)
    (step_then P P c.args.bounds.now c.loop-at.bounds c.look_at_row.new.bounds c.args.trail.now c.loop-at.trail c.look_at_row.new.trail (Ok true) c.look_at_row.result c.loop-at.invariant.step c.look_at_row.ensures.step (λ values holds within. holds))

pub returns-then-not-branch-clause-step : goal.returns-then-not-branch-clause-step
returns-then-not-branch-clause-step c =
    let P = AreMet (map view c.args.constraints.now) in
    step_as P c.args.bounds.now c.look_at_row.new.bounds c.args.trail.now c.look_at_row.new.trail c.look_at_row.result (Ok false) (let k : c.in_ok-look_at_row.field-0 ≡ false = first_of (cc (c.if-not-branch.true), search (rules, not_is_true, c.if-not-branch.true)) in c.in_ok-look_at_row.was ∙ ap (λ b. Ok b) k)
    (step_then P P c.args.bounds.now c.loop-at.bounds c.look_at_row.new.bounds c.args.trail.now c.loop-at.trail c.look_at_row.new.trail (Ok true) c.look_at_row.result c.loop-at.invariant.step c.look_at_row.ensures.step (λ values holds within. holds))

pub loop-at-preserved : goal.loop-at-preserved
loop-at-preserved c =
    let es = map view c.args.constraints.now in
    let u = c.loop-at.trail in
    let none : Former = record { variable = 0; bound = None } in
    let below : c.loop-at.at < length u = omega (arith, c.if-at-mark.false, c.mark-in-loop-at.ensures) in
    let f = get_or u c.loop-at.at none in
    let row = subst (λ (l : List Former). IsRow c.args.self.now.watching.items (get_or l c.loop-at.at none).variable c.constraints_of-row.result.now) c.formers.ensures c.constraints_of-row.ensures in
    let e = (let k : c.in_ok-look_at_row.field-0 ≡ true = first_of (cc (c.if-not-branch.false), search (rules, not_is_false, c.if-not-branch.false)) in c.in_ok-look_at_row.was ∙ ap (λ b. Ok b) k) in
    settled_once es c.args.self.now (length c.args.bounds.now) c.args.from c.loop-at.at f c.constraints_of-row.result.now c.args.bounds.now c.loop-at.bounds c.look_at_row.new.bounds c.args.trail.now u c.look_at_row.new.trail c.look_at_row.result c.requires.watch below (get_or_default u c.loop-at.at none f below) row c.loop-at.invariant c.look_at_row.ensures.step (c.look_at_row.ensures.looked e)

pub returns-then-at-mark-clause-unrefused : goal.returns-then-at-mark-clause-unrefused
returns-then-at-mark-clause-unrefused c e = all_settled (map view c.args.constraints.now) c.args.from c.loop-at.at c.args.bounds.now c.loop-at.bounds c.args.trail.now c.loop-at.trail (omega (arith, c.if-at-mark.true, c.mark-in-loop-at.ensures)) c.loop-at.invariant
