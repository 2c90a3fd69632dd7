use Rattle.std.proofs.Common.{◌∙◌, ◌+◌, ◌-◌, ◌<◌, map, ap, subst, Some, arith}
use Rattle.std.proofs.lemmas.Result.{IfOk-weaker}
use Rattle.pst_model.specs.ModelView.{view_model, view_step}
use Rattle.pst_legal.specs.Pieces.{Statement, Turning, statements, turns}
use Rattle.pst_legal.specs.Menus.{menu}
use Rattle.pst_shape_parts.specs.Contexts.{context_of}
use Rattle.pst_shape_parts.specs.Trees.{tree_of}
use Rattle.pst_shape_steps.specs.Pending.{pieces_of, Goes}
use Rattle.pst_shape_steps.proofs.Levels.{went_on, first_turn}
use Rattle.pst_shape_steps.proofs.step.go_on_parts.Goals as goal

pub returns-in_ok-frame-in-Some-clause-reads : goal.returns-in_ok-frame-in-Some-clause-reads
returns-in_ok-frame-in-Some-clause-reads c =
    let m = view_model c.args.model.now in
    let k = context_of c.args.frame.now.value in
    let step = view_step c.in-Some.step.now in
    let stack = c.in_ok-rest-in-Some.rest.value in
    let old = tree_of c.args.grown.now in
    let new = tree_of c.enter.new.grown in
    IfOk-weaker c.enter.result _ _ (λ at h. went_on m c.args.levels c.args.parent (Statement k step) (statements k (map view_step c.in-Some.steps.now)) (pieces_of k c.args.parts) c.args.below.now.value stack old at new
    (ap (pieces_of k) c.in-Steps.is ∙ ap (λ xs. statements k (map view_step xs)) c.in-Some.ensures.cases.0)
    (λ seed. c.in_ok-rest-in-Some.ensures.reads m seed)
    (subst (λ f. Goes m (menu m (Statement (context_of f) step)) c.args.levels (Some c.args.parent) stack old at new) c.in_ok-frame-in-Some.ensures.cases h)) c.enter.ensures.reads

pub returns-in_ok-rest-in-Turns-clause-reads : goal.returns-in_ok-rest-in-Turns-clause-reads
returns-in_ok-rest-in-Turns-clause-reads c =
    let m = view_model c.args.model.now in
    let k = context_of c.args.frame.now.value in
    let t = c.in-Turns.turns in
    let body = view_step t.body.now in
    let stack = c.in_ok-rest-in-Turns.rest.value in
    let old = tree_of c.args.grown.now in
    let new = tree_of c.enter_turn.new.grown in
    let some : 0 < t.count = omega arith in
    IfOk-weaker c.enter_turn.result _ _ (λ at h. went_on m c.args.levels c.args.parent (Turning k t.index body) (turns k body (t.index + 1) (t.count - 1)) (pieces_of k c.args.parts) c.args.below.now.value stack old at new
    (ap (pieces_of k) c.in-Turns.is ∙ first_turn k body t.index t.count some)
    (λ seed. c.in_ok-rest-in-Turns.ensures.reads m seed)
    (subst (λ f. Goes m (menu m (Turning (context_of f) t.index body)) c.args.levels (Some c.args.parent) stack old at new) c.deref.ensures (h m))) c.enter_turn.ensures.reads
