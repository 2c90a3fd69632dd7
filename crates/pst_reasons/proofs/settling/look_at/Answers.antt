use Rattle.std.proofs.Common.{rules, ◌≡◌, length, map, true, false, Ok, subst, ap, ◌∙◌}
use Rattle.pst_expr.specs.Tree.{view}
use Rattle.pst_domain.specs.Bounds.{HasVariablesBelow}
use Rattle.pst_narrow.specs.Solutions.{IsMet}
use Rattle.pst_narrow.specs.Settled.{IsUnrefused}
use Rattle.pst_narrow.proofs.NarrowLemmas.{step_err, step_as, not_is_true, not_is_false}
use Rattle.pst_narrow.proofs.ListLemmas.{at}
use Rattle.pst_narrow.proofs.SettleLemmas.{numbered}
use Rattle.pst_reasons.proofs.NoteLemmas.{back_is, undone_step, undone_unmet, undo_below, undo_room, noted, undone, step_of, same_numbered, appended_none, appended_same, noted_appended}
use Rattle.pst_reasons.proofs.settling.look_at.Goals as goal

pub look_again-requires-clause-variables : goal.look_again-requires-clause-variables
look_again-requires-clause-variables c =
    at (HasVariablesBelow (length c.args.bounds.now)) c.args.constraints.now c.args.number c.index-constraints-number.result c.requires.number c.index-constraints-number.is c.requires.variables

pub undo-requires-clause-mark : goal.undo-requires-clause-mark
undo-requires-clause-mark c = undo_room c.args.trail.now c.look_again.new.trail c.args.bounds.now c.look_again.new.bounds c.mark-mark.result c.mark-mark.ensures c.look_again.ensures.step.extends

pub undo-requires-clause-variables : goal.undo-requires-clause-variables
undo-requires-clause-variables c = undo_below c.args.trail.now c.look_again.new.trail c.args.bounds.now c.look_again.new.bounds c.mark-mark.result c.mark-mark.ensures c.look_again.ensures.step.narrows.count c.look_again.ensures.step.extends

pub returns-in_err-look_again-clause-step : goal.returns-in_err-look_again-clause-step
returns-in_err-look_again-clause-step c e num =
    let xs = c.args.constraints.now in
    let x = c.index-constraints-number.result in
    step_err (IsMet e) c.args.bounds.now c.look_again.new.bounds c.args.trail.now c.look_again.new.trail c.look_again.result c.from_residual.result (λ r. search rules)
    (step_of (map view xs) c.args.number (view x) e c.args.bounds.now c.look_again.new.bounds c.args.trail.now c.look_again.new.trail c.look_again.result (numbered xs c.args.number x c.requires.number c.index-constraints-number.is) num c.look_again.ensures.step)

pub returns-then-not-branch-clause-step : goal.returns-then-not-branch-clause-step
returns-then-not-branch-clause-step c e num =
    let xs = c.args.constraints.now in
    let x = c.index-constraints-number.result in
    let no_hold = (let k : c.in_ok-look_again.field-0 ≡ false = first_of (cc (c.if-not-branch.true), search (rules, not_is_true, c.if-not-branch.true)) in c.in_ok-look_again.was ∙ ap (λ b. Ok b) k) in
    let back = back_is c.args.trail.now c.look_again.new.trail c.undo.new.self c.args.bounds.now c.look_again.new.bounds c.undo.new.bounds c.mark-mark.result c.mark-mark.ensures c.look_again.ensures.step.extends c.undo.ensures.bounds c.undo.ensures.trail in
    let s = step_of (map view xs) c.args.number (view x) e c.args.bounds.now c.look_again.new.bounds c.args.trail.now c.look_again.new.trail c.look_again.result (numbered xs c.args.number x c.requires.number c.index-constraints-number.is) num c.look_again.ensures.step in
    undone_step e c.args.trail.now c.look_again.new.trail c.undo.new.self c.args.bounds.now c.look_again.new.bounds c.undo.new.bounds c.look_again.result c.requires.upright no_hold s back.0 back.1

pub returns-then-not-branch-clause-explained : goal.returns-then-not-branch-clause-explained
returns-then-not-branch-clause-explained c b e =
    let back = back_is c.args.trail.now c.look_again.new.trail c.undo.new.self c.args.bounds.now c.look_again.new.bounds c.undo.new.bounds c.mark-mark.result c.mark-mark.ensures c.look_again.ensures.step.extends c.undo.ensures.bounds c.undo.ensures.trail in
    undone (map view c.args.constraints.now) c.args.steps.now.items c.args.trail.now c.undo.new.self c.args.bounds.now c.undo.new.bounds back.1 back.0

pub returns-then-not-branch-clause-unmet : goal.returns-then-not-branch-clause-unmet
returns-then-not-branch-clause-unmet c e =
    let xs = c.args.constraints.now in
    let x = c.index-constraints-number.result in
    let no_hold = (let k : c.in_ok-look_again.field-0 ≡ false = first_of (cc (c.if-not-branch.true), search (rules, not_is_true, c.if-not-branch.true)) in c.in_ok-look_again.was ∙ ap (λ b. Ok b) k) in
    let back = back_is c.args.trail.now c.look_again.new.trail c.undo.new.self c.args.bounds.now c.look_again.new.bounds c.undo.new.bounds c.mark-mark.result c.mark-mark.ensures c.look_again.ensures.step.extends c.undo.ensures.bounds c.undo.ensures.trail in
    undone_unmet c.narrowing_is_local.ensures (map view xs) c.args.number (view x) c.args.trail.now c.look_again.new.trail c.args.bounds.now c.look_again.new.bounds c.undo.new.bounds c.look_again.result (numbered xs c.args.number x c.requires.number c.index-constraints-number.is) no_hold c.look_again.ensures.step back.0

pub returns-in_err-note-clause-step : goal.returns-in_err-note-clause-step
returns-in_err-note-clause-step c e num =
    let xs = c.args.constraints.now in
    let x = c.index-constraints-number.result in
    step_err (IsMet e) c.args.bounds.now c.look_again.new.bounds c.args.trail.now c.look_again.new.trail c.look_again.result c.from_residual-in_err-note.result (λ r. search rules)
    (step_of (map view xs) c.args.number (view x) e c.args.bounds.now c.look_again.new.bounds c.args.trail.now c.look_again.new.trail c.look_again.result (numbered xs c.args.number x c.requires.number c.index-constraints-number.is) num c.look_again.ensures.step)

pub returns-clause-step : goal.returns-clause-step
returns-clause-step c e num =
    let xs = c.args.constraints.now in
    let x = c.index-constraints-number.result in
    let holds = (let k : c.in_ok-look_again.field-0 ≡ true = first_of (cc (c.if-not-branch.false), search (rules, not_is_false, c.if-not-branch.false)) in c.in_ok-look_again.was ∙ ap (λ b. Ok b) k) in
    step_as (IsMet e) c.args.bounds.now c.look_again.new.bounds c.args.trail.now c.look_again.new.trail c.look_again.result (Ok true) holds
    (step_of (map view xs) c.args.number (view x) e c.args.bounds.now c.look_again.new.bounds c.args.trail.now c.look_again.new.trail c.look_again.result (numbered xs c.args.number x c.requires.number c.index-constraints-number.is) num c.look_again.ensures.step)

pub returns-clause-tested : goal.returns-clause-tested
returns-clause-tested c r e num =
    let xs = c.args.constraints.now in
    let x = c.index-constraints-number.result in
    let holds = (let k : c.in_ok-look_again.field-0 ≡ true = first_of (cc (c.if-not-branch.false), search (rules, not_is_false, c.if-not-branch.false)) in c.in_ok-look_again.was ∙ ap (λ b. Ok b) k) in
    subst (λ z. IsUnrefused z c.look_again.new.bounds) (same_numbered (map view xs) c.args.number (view x) e (numbered xs c.args.number x c.requires.number c.index-constraints-number.is) num) (c.look_again.ensures.tested holds)

pub returns-clause-explained : goal.returns-clause-explained
returns-clause-explained c b r =
    let xs = c.args.constraints.now in
    let x = c.index-constraints-number.result in
    noted c.narrowing_is_local.ensures (map view xs) c.args.number (view x) c.args.steps.now.items c.note.new.steps.items c.args.trail.now c.look_again.new.trail c.args.bounds.now c.look_again.new.bounds c.mark-mark.result c.look_again.result (numbered xs c.args.number x c.requires.number c.index-constraints-number.is) c.mark-mark.ensures c.in_ok-note.ensures.noted c.look_again.ensures.step

pub returns-in_err-look_again-clause-appended : goal.returns-in_err-look_again-clause-appended
returns-in_err-look_again-clause-appended c = appended_none c.args.steps.now.items

pub returns-then-not-branch-clause-appended : goal.returns-then-not-branch-clause-appended
returns-then-not-branch-clause-appended c = appended_none c.args.steps.now.items

pub returns-in_err-note-clause-appended : goal.returns-in_err-note-clause-appended
returns-in_err-note-clause-appended c = appended_same c.args.steps.now.items c.note.new.steps.items c.in_err-note.ensures.same

pub returns-clause-appended : goal.returns-clause-appended
returns-clause-appended c = noted_appended c.args.number c.mark-mark.result c.look_again.new.trail c.args.steps.now.items c.note.new.steps.items c.in_ok-note.ensures.noted
