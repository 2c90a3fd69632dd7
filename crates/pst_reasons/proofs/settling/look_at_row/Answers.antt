use Rattle.std.proofs.Common.{rules, ◌≡◌, map, get_or, true, false, Ok, sym, subst, ap, ◌∙◌}
use Rattle.pst_expr.specs.Tree.{view}
use Rattle.pst_narrow.specs.Solutions.{AreMet}
use Rattle.pst_narrow.specs.Narrowing.{HaveVariablesBelow}
use Rattle.pst_narrow.proofs.NarrowLemmas.{step_err, step_as, not_is_true, not_is_false}
use Rattle.pst_narrow.proofs.NotedLemmas.{item_in, item_is}
use Rattle.pst_narrow.proofs.SettleLemmas.{none_of_row, row_step, one_of_row, all_of_row}
use Rattle.pst_reasons.specs.Settled.{fits, IsUnmetAt}
use Rattle.pst_reasons.proofs.NoteLemmas.{item, item_numbered, ok_some_is, explained_then, not_false, appended_none, appended_then}
use Rattle.pst_reasons.proofs.settling.look_at_row.Goals as goal

pub loop-number-init : goal.loop-number-init
loop-number-init c = record { looked = none_of_row c.args.constraints.now c.args.row.now c.args.bounds.now c.args.trail.now c.requires.upright; appended = appended_none c.args.steps.now.items; explained = λ given h. h }

pub look_at-requires-clause-upright : goal.look_at-requires-clause-upright
look_at-requires-clause-upright c = c.loop-number.invariant.looked.step.narrows.upright

pub look_at-requires-clause-variables : goal.look_at-requires-clause-variables
look_at-requires-clause-variables c = subst (λ n. HaveVariablesBelow n (map view c.args.constraints.now)) (sym c.loop-number.invariant.looked.step.narrows.count) c.requires.variables

pub look_at-requires-clause-number : goal.look_at-requires-clause-number
look_at-requires-clause-number c = c.requires.numbers _ (item_in c.args.row.now c.loop-number.number-index c.loop-number-test.true)

pub returns-in_err-look_at-clause-step : goal.returns-in_err-look_at-clause-step
returns-in_err-look_at-clause-step c =
    let xs = c.args.constraints.now in
    let n = get_or c.args.row.now c.loop-number.number-index 0 in
    let below = c.requires.numbers n (item_in c.args.row.now c.loop-number.number-index c.loop-number-test.true) in
    step_err (AreMet (map view xs)) c.args.bounds.now c.look_at.new.bounds c.args.trail.now c.look_at.new.trail c.look_at.result (fits c.from_residual.result) (not_false c.from_residual.result (λ o e. search rules))
    (row_step xs c.args.row.now c.loop-number.number-index n (item xs n below).0 c.args.bounds.now c.loop-number.bounds c.look_at.new.bounds c.args.trail.now c.loop-number.trail c.look_at.new.trail c.look_at.result below (item xs n below).1 c.loop-number.invariant.looked (c.look_at.ensures.step (view (item xs n below).0) (item_numbered xs n below)))

pub returns-then-not-branch-clause-step : goal.returns-then-not-branch-clause-step
returns-then-not-branch-clause-step c =
    let xs = c.args.constraints.now in
    let n = get_or c.args.row.now c.loop-number.number-index 0 in
    let below = c.requires.numbers n (item_in c.args.row.now c.loop-number.number-index c.loop-number-test.true) in
    step_as (AreMet (map view xs)) c.args.bounds.now c.look_at.new.bounds c.args.trail.now c.look_at.new.trail c.look_at.result (Ok false) (let k : c.in_ok-look_at.field-0 ≡ false = first_of (cc (c.if-not-branch.true), search (rules, not_is_true, c.if-not-branch.true)) in c.in_ok-look_at.was ∙ ap (λ b. Ok b) k)
    (row_step xs c.args.row.now c.loop-number.number-index n (item xs n below).0 c.args.bounds.now c.loop-number.bounds c.look_at.new.bounds c.args.trail.now c.loop-number.trail c.look_at.new.trail c.look_at.result below (item xs n below).1 c.loop-number.invariant.looked (c.look_at.ensures.step (view (item xs n below).0) (item_numbered xs n below)))

pub returns-then-not-branch-clause-explained : goal.returns-then-not-branch-clause-explained
returns-then-not-branch-clause-explained c found e =
    explained_then (map view c.args.constraints.now) c.args.steps.now.items c.loop-number.steps.items c.look_at.new.steps.items c.args.trail.now c.loop-number.trail c.look_at.new.trail c.args.bounds.now c.loop-number.bounds c.look_at.new.bounds c.loop-number.invariant.explained (c.look_at.ensures.explained c.in_ok-look_at.field-0 c.in_ok-look_at.was)

pub returns-then-not-branch-clause-unmet : goal.returns-then-not-branch-clause-unmet
returns-then-not-branch-clause-unmet c n e =
    let no_hold = (let k : c.in_ok-look_at.field-0 ≡ false = first_of (cc (c.if-not-branch.true), search (rules, not_is_true, c.if-not-branch.true)) in c.in_ok-look_at.was ∙ ap (λ b. Ok b) k) in
    subst (λ m. IsUnmetAt (map view c.args.constraints.now) m c.look_at.new.bounds) (ok_some_is _ n e) (c.look_at.ensures.unmet no_hold)

pub loop-number-preserved : goal.loop-number-preserved
loop-number-preserved c =
    let xs = c.args.constraints.now in
    let n = get_or c.args.row.now c.loop-number.number-index 0 in
    let below = c.requires.numbers n (item_in c.args.row.now c.loop-number.number-index c.loop-number-test.true) in
    let e = (let k : c.in_ok-look_at.field-0 ≡ true = first_of (cc (c.if-not-branch.false), search (rules, not_is_false, c.if-not-branch.false)) in c.in_ok-look_at.was ∙ ap (λ b. Ok b) k) in
    let num = item_numbered xs n below in
    record {
      looked = one_of_row xs c.args.row.now c.loop-number.number-index n (item xs n below).0 c.args.bounds.now c.loop-number.bounds c.look_at.new.bounds c.args.trail.now c.loop-number.trail c.look_at.new.trail c.look_at.result c.loop-number-test.true (item_is c.args.row.now c.loop-number.number-index c.loop-number-test.true) below (item xs n below).1 c.loop-number.invariant.looked (c.look_at.ensures.step (view (item xs n below).0) num) (c.look_at.ensures.tested e (view (item xs n below).0) num);
      appended = appended_then c.args.steps.now.items c.loop-number.steps.items c.look_at.new.steps.items c.loop-number.invariant.appended c.look_at.ensures.appended;
      explained = explained_then (map view xs) c.args.steps.now.items c.loop-number.steps.items c.look_at.new.steps.items c.args.trail.now c.loop-number.trail c.look_at.new.trail c.args.bounds.now c.loop-number.bounds c.look_at.new.bounds c.loop-number.invariant.explained (c.look_at.ensures.explained true e);
    }

pub returns-clause-step : goal.returns-clause-step
returns-clause-step c = c.loop-number.invariant.looked.step

pub returns-clause-looked : goal.returns-clause-looked
returns-clause-looked c e = all_of_row c.args.constraints.now c.args.row.now c.loop-number.number-index c.args.bounds.now c.loop-number.bounds c.args.trail.now c.loop-number.trail c.loop-number-test.false c.loop-number.invariant.looked

pub returns-clause-explained : goal.returns-clause-explained
returns-clause-explained c found e = c.loop-number.invariant.explained

pub returns-in_err-look_at-clause-appended : goal.returns-in_err-look_at-clause-appended
returns-in_err-look_at-clause-appended c = appended_then c.args.steps.now.items c.loop-number.steps.items c.look_at.new.steps.items c.loop-number.invariant.appended c.look_at.ensures.appended

pub returns-then-not-branch-clause-appended : goal.returns-then-not-branch-clause-appended
returns-then-not-branch-clause-appended c = appended_then c.args.steps.now.items c.loop-number.steps.items c.look_at.new.steps.items c.loop-number.invariant.appended c.look_at.ensures.appended

pub returns-clause-appended : goal.returns-clause-appended
returns-clause-appended c = c.loop-number.invariant.appended
