use Rattle.std.proofs.Common.{rules, ◌≡◌, length, map, drop, true, false, Ok, sym, subst, ap, ◌∙◌, arith}
use Rattle.pst_expr.specs.Tree.{view}
use Rattle.pst_narrow.specs.Solutions.{AreMet}
use Rattle.pst_narrow.specs.Trail.{AreBelow}
use Rattle.pst_narrow.specs.Narrowing.{HaveVariablesBelow}
use Rattle.pst_narrow.specs.Watch.{IsWatch}
use Rattle.pst_narrow.specs.Settled.{QuietAreOpen}
use Rattle.pst_narrow.proofs.NarrowLemmas.{step_then, step_err, step_as, not_is_true, not_is_false}
use Rattle.pst_narrow.proofs.ListLemmas.{all_stay}
use Rattle.pst_narrow.proofs.SettleLemmas.{quiet_at_first, changed_at_first, room_at_first}
use Rattle.pst_narrow.proofs.watch.Watch.narrow.Goals as goal

pub returns-in_err-look_at_all-clause-step : goal.returns-in_err-look_at_all-clause-step
returns-in_err-look_at_all-clause-step c =
    step_err (AreMet (map view c.args.constraints.now)) c.args.bounds.now c.look_at_all.new.bounds c.args.trail.now c.look_at_all.new.trail c.look_at_all.result c.from_residual.result (λ e. search rules) c.look_at_all.ensures.step

pub returns-then-not-branch-clause-step : goal.returns-then-not-branch-clause-step
returns-then-not-branch-clause-step c =
    step_as (AreMet (map view c.args.constraints.now)) c.args.bounds.now c.look_at_all.new.bounds c.args.trail.now c.look_at_all.new.trail c.look_at_all.result (Ok false) (let k : c.in_ok-look_at_all.field-0 ≡ false = first_of (cc (c.if-not-branch.true), search (rules, not_is_true, c.if-not-branch.true)) in c.in_ok-look_at_all.was ∙ ap (λ b. Ok b) k) c.look_at_all.ensures.step

pub settle-requires-clause-upright : goal.settle-requires-clause-upright
settle-requires-clause-upright c = c.look_at_all.ensures.step.narrows.upright

pub settle-requires-clause-watch : goal.settle-requires-clause-watch
settle-requires-clause-watch c = subst (λ n. IsWatch (map view c.args.constraints.now) n c.args.self.now) (sym c.look_at_all.ensures.step.narrows.count) c.requires.watch

pub settle-requires-clause-variables : goal.settle-requires-clause-variables
settle-requires-clause-variables c = subst (λ n. HaveVariablesBelow n (map view c.args.constraints.now)) (sym c.look_at_all.ensures.step.narrows.count) c.requires.variables

pub settle-requires-clause-changed : goal.settle-requires-clause-changed
settle-requires-clause-changed c =
    let s = c.look_at_all.ensures.step in
    subst (λ n. AreBelow (length c.look_at_all.new.bounds) (drop n c.look_at_all.new.trail)) (sym c.mark-mark.ensures) (changed_at_first c.args.trail.now c.look_at_all.new.trail c.args.bounds.now c.look_at_all.new.bounds s.narrows.count s.extends)

pub settle-requires-clause-room : goal.settle-requires-clause-room
settle-requires-clause-room c =
    let room = room_at_first c.args.trail.now c.look_at_all.new.trail c.args.bounds.now c.look_at_all.new.bounds c.look_at_all.ensures.step.extends in
    omega (arith, room, c.mark-mark.ensures)

pub settle-requires-clause-quiet : goal.settle-requires-clause-quiet
settle-requires-clause-quiet c =
    let e = (let k : c.in_ok-look_at_all.field-0 ≡ true = first_of (cc (c.if-not-branch.false), search (rules, not_is_false, c.if-not-branch.false)) in c.in_ok-look_at_all.was ∙ ap (λ b. Ok b) k) in
    subst (λ n. QuietAreOpen (map view c.args.constraints.now) (drop n c.look_at_all.new.trail) c.look_at_all.new.bounds) (sym c.mark-mark.ensures) (quiet_at_first (map view c.args.constraints.now) c.args.trail.now c.look_at_all.new.trail c.look_at_all.new.bounds (c.look_at_all.ensures.looked e))

pub returns-clause-step : goal.returns-clause-step
returns-clause-step c =
    let P = AreMet (map view c.args.constraints.now) in
    step_then P P c.args.bounds.now c.look_at_all.new.bounds c.settle.new.bounds c.args.trail.now c.look_at_all.new.trail c.settle.new.trail c.look_at_all.result c.settle.result c.look_at_all.ensures.step c.settle.ensures.step (λ values holds within. holds)

pub returns-clause-cuts : goal.returns-clause-cuts
returns-clause-cuts c e =
    let ok = (let k : c.in_ok-look_at_all.field-0 ≡ true = first_of (cc (c.if-not-branch.false), search (rules, not_is_false, c.if-not-branch.false)) in c.in_ok-look_at_all.was ∙ ap (λ b. Ok b) k) in
    all_stay (map view c.args.constraints.now) c.args.bounds.now c.look_at_all.new.bounds c.settle.new.bounds c.settle.ensures.step.narrows.inside (c.look_at_all.ensures.cuts ok)
