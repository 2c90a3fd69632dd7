use Rattle.std.proofs.Common.{rules, ◌≡◌, length, map, get_or, true, false, Ok, sym, subst, ap, ◌∙◌}
use Rattle.pst_expr.specs.Tree.{view}
use Rattle.pst_domain.specs.Bounds.{HasVariablesBelow}
use Rattle.pst_narrow.specs.Solutions.{AreMet}
use Rattle.pst_narrow.specs.Narrowing.{HaveVariablesBelow}
use Rattle.pst_narrow.proofs.NarrowLemmas.{step_err, step_as, not_is_true, not_is_false}
use Rattle.pst_narrow.proofs.ListLemmas.{at}
use Rattle.pst_narrow.proofs.NotedLemmas.{item_in, item_is}
use Rattle.pst_narrow.proofs.SettleLemmas.{none_of_row, row_step, one_of_row, all_of_row}
use Rattle.pst_narrow.proofs.settle.look_at_row.Goals as goal

pub loop-number-init : goal.loop-number-init
loop-number-init c = none_of_row c.args.constraints.now c.args.row.now c.args.bounds.now c.args.trail.now c.requires.upright

pub bounds-constraints-number : goal.bounds-constraints-number
bounds-constraints-number c = c.requires.numbers _ (item_in c.args.row.now c.loop-number.number-index c.loop-number-test.true)

pub look_again-requires-clause-upright : goal.look_again-requires-clause-upright
look_again-requires-clause-upright c = c.loop-number.invariant.step.narrows.upright

pub look_again-requires-clause-variables : goal.look_again-requires-clause-variables
look_again-requires-clause-variables c =
    let xs = c.args.constraints.now in
    at (HasVariablesBelow (length c.loop-number.bounds)) xs (get_or c.args.row.now c.loop-number.number-index 0) c.index-constraints-number.result (c.requires.numbers _ (item_in c.args.row.now c.loop-number.number-index c.loop-number-test.true)) c.index-constraints-number.is
    (subst (λ n. HaveVariablesBelow n (map view xs)) (sym c.loop-number.invariant.step.narrows.count) c.requires.variables)

pub returns-in_err-look_again-clause-step : goal.returns-in_err-look_again-clause-step
returns-in_err-look_again-clause-step c =
    let xs = c.args.constraints.now in
    let below = c.requires.numbers _ (item_in c.args.row.now c.loop-number.number-index c.loop-number-test.true) in
    step_err (AreMet (map view xs)) c.args.bounds.now c.look_again.new.bounds c.args.trail.now c.look_again.new.trail c.look_again.result c.from_residual.result (λ e. search rules)
    (row_step xs c.args.row.now c.loop-number.number-index (get_or c.args.row.now c.loop-number.number-index 0) c.index-constraints-number.result c.args.bounds.now c.loop-number.bounds c.look_again.new.bounds c.args.trail.now c.loop-number.trail c.look_again.new.trail c.look_again.result below c.index-constraints-number.is c.loop-number.invariant c.look_again.ensures.step)

pub returns-then-not-branch-clause-step : goal.returns-then-not-branch-clause-step
returns-then-not-branch-clause-step c =
    let xs = c.args.constraints.now in
    let below = c.requires.numbers _ (item_in c.args.row.now c.loop-number.number-index c.loop-number-test.true) in
    step_as (AreMet (map view xs)) c.args.bounds.now c.look_again.new.bounds c.args.trail.now c.look_again.new.trail c.look_again.result (Ok false) (let k : c.in_ok-look_again.field-0 ≡ false = first_of (cc (c.if-not-branch.true), search (rules, not_is_true, c.if-not-branch.true)) in c.in_ok-look_again.was ∙ ap (λ b. Ok b) k)
    (row_step xs c.args.row.now c.loop-number.number-index (get_or c.args.row.now c.loop-number.number-index 0) c.index-constraints-number.result c.args.bounds.now c.loop-number.bounds c.look_again.new.bounds c.args.trail.now c.loop-number.trail c.look_again.new.trail c.look_again.result below c.index-constraints-number.is c.loop-number.invariant c.look_again.ensures.step)

pub loop-number-preserved : goal.loop-number-preserved
loop-number-preserved c =
    let xs = c.args.constraints.now in
    let below = c.requires.numbers _ (item_in c.args.row.now c.loop-number.number-index c.loop-number-test.true) in
    let e = (let k : c.in_ok-look_again.field-0 ≡ true = first_of (cc (c.if-not-branch.false), search (rules, not_is_false, c.if-not-branch.false)) in c.in_ok-look_again.was ∙ ap (λ b. Ok b) k) in
    one_of_row xs c.args.row.now c.loop-number.number-index (get_or c.args.row.now c.loop-number.number-index 0) c.index-constraints-number.result c.args.bounds.now c.loop-number.bounds c.look_again.new.bounds c.args.trail.now c.loop-number.trail c.look_again.new.trail c.look_again.result c.loop-number-test.true (item_is c.args.row.now c.loop-number.number-index c.loop-number-test.true) below c.index-constraints-number.is c.loop-number.invariant c.look_again.ensures.step (c.look_again.ensures.tested e)

pub returns-clause-step : goal.returns-clause-step
returns-clause-step c = c.loop-number.invariant.step

pub returns-clause-looked : goal.returns-clause-looked
returns-clause-looked c e = all_of_row c.args.constraints.now c.args.row.now c.loop-number.number-index c.args.bounds.now c.loop-number.bounds c.args.trail.now c.loop-number.trail c.loop-number-test.false c.loop-number.invariant
