use Rattle.std.proofs.Common.{◌∙◌, map, ap, sym, Some}
use Rattle.std.proofs.lemmas.Result.{IfOk-weaker}
use Rattle.pst_model.specs.ModelView.{view_model, view_step, view_branch, view_arm, maybe_step}
use Rattle.pst_model.specs.ActivityTree.{step_of}
use Rattle.pst_model.specs.ConstraintTree.{view_constraint}
use Rattle.pst_legal.specs.Types.{type_of}
use Rattle.pst_legal.specs.Pieces.{value_in}
use Rattle.pst_legal.specs.Menus.{statement_menu, action_menu, block_menu, branches_menu, available, repeat_menu, if_menu, match_menu}
use Rattle.pst_shape_parts.specs.Contexts.{context_of}
use Rattle.pst_shape_parts.specs.Trees.{tree_of}
use Rattle.pst_shape_steps.proofs.Levels.{goes_menu}
use Rattle.pst_shape_steps.proofs.Statements.{sequence_menu, parallel_menu, schedule_menu, joined_menu, select_menu, if_statement, match_statement}
use Rattle.pst_shape_steps.proofs.step.enter.Goals as goal

pub returns-in-Traverse-clause-reads : goal.returns-in-Traverse-clause-reads
returns-in-Traverse-clause-reads c =
    let m = view_model c.args.model.now in
    let k = context_of c.args.frame.value in
    IfOk-weaker c.enter_action.result _ _ (λ at h. goes_menu m _ _ c.args.levels (Some c.args.parent) c.args.below.value (tree_of c.args.grown.now) at (tree_of c.args.grown.now)
    (ap (λ s. statement_menu m k (view_step s)) c.in-Traverse.is ∙ ap (λ f. action_menu m c.in-Traverse.action (Some f.instance) (type_of m c.in-Traverse.action)) (sym c.deref.ensures)) (h (tree_of c.args.grown.now))) c.enter_action.ensures.reads

pub returns-in-Traverse-clause-falls : goal.returns-in-Traverse-clause-falls
returns-in-Traverse-clause-falls c = IfOk-weaker c.enter_action.result _ _ (λ at h. h (tree_of c.args.grown.now)) c.enter_action.ensures.falls

pub returns-in-Sequence-clause-reads : goal.returns-in-Sequence-clause-reads
returns-in-Sequence-clause-reads c =
    let m = view_model c.args.model.now in
    IfOk-weaker c.enter_steps.result _ _ (λ at h. goes_menu m _ _ c.args.levels (Some c.args.parent) c.args.below.value (tree_of c.args.grown.now) at (tree_of c.enter_steps.new.grown)
    (sequence_menu m (context_of c.args.frame.value) c.args.step.now c.in-Sequence.steps c.in-Sequence.is) (h m)) c.enter_steps.ensures.reads

pub returns-in-Parallel-clause-reads : goal.returns-in-Parallel-clause-reads
returns-in-Parallel-clause-reads c =
    let m = view_model c.args.model.now in
    IfOk-weaker c.enter_steps-in-Parallel.result _ _ (λ at h. goes_menu m _ _ c.args.levels (Some c.args.parent) c.args.below.value (tree_of c.args.grown.now) at (tree_of c.enter_steps-in-Parallel.new.grown)
    (parallel_menu m (context_of c.args.frame.value) c.args.step.now c.in-Parallel.steps c.in-Parallel.is) (h m)) c.enter_steps-in-Parallel.ensures.reads

pub returns-in-Schedule-clause-reads : goal.returns-in-Schedule-clause-reads
returns-in-Schedule-clause-reads c =
    let m = view_model c.args.model.now in
    IfOk-weaker c.enter_steps-in-Schedule.result _ _ (λ at h. goes_menu m _ _ c.args.levels (Some c.args.parent) c.args.below.value (tree_of c.args.grown.now) at (tree_of c.enter_steps-in-Schedule.new.grown)
    (schedule_menu m (context_of c.args.frame.value) c.args.step.now c.in-Schedule.steps c.in-Schedule.is) (h m)) c.enter_steps-in-Schedule.ensures.reads

pub returns-in-Joined-clause-reads : goal.returns-in-Joined-clause-reads
returns-in-Joined-clause-reads c =
    let m = view_model c.args.model.now in
    let k = context_of c.args.frame.value in
    IfOk-weaker c.enter_block.result _ _ (λ at h. goes_menu m _ _ c.args.levels (Some c.args.parent) c.args.below.value (tree_of c.args.grown.now) at (tree_of c.enter_block.new.grown)
    (joined_menu m k c.args.step.now c.in-Joined.parallel c.in-Joined.join c.in-Joined.steps c.in-Joined.is ∙ ap (λ xs. block_menu k c.in-Joined.parallel c.in-Joined.join (map view_step xs)) (sym c.as_slice-steps.ensures.value)) (h m)) c.enter_block.ensures.reads

pub returns-in-Select-clause-reads : goal.returns-in-Select-clause-reads
returns-in-Select-clause-reads c =
    let m = view_model c.args.model.now in
    let k = context_of c.args.frame.value in
    IfOk-weaker c.enter_select.result _ _ (λ at h. goes_menu m _ _ c.args.levels (Some c.args.parent) c.args.below.value (tree_of c.args.grown.now) at (tree_of c.args.grown.now)
    (select_menu m k c.args.step.now c.in-Select.branches c.in-Select.is ∙ ap (λ xs. branches_menu k (available k (map view_branch xs))) (sym c.as_slice.ensures.value)) (h m (tree_of c.args.grown.now))) c.enter_select.ensures.reads

pub returns-in-Select-clause-falls : goal.returns-in-Select-clause-falls
returns-in-Select-clause-falls c = IfOk-weaker c.enter_select.result _ _ (λ at h. h (tree_of c.args.grown.now)) c.enter_select.ensures.falls

pub returns-in-Repeat-clause-reads : goal.returns-in-Repeat-clause-reads
returns-in-Repeat-clause-reads c =
    let m = view_model c.args.model.now in
    let k = context_of c.args.frame.value in
    IfOk-weaker c.enter_repeat.result _ _ (λ at h. goes_menu m _ _ c.args.levels (Some c.args.parent) c.args.below.value (tree_of c.args.grown.now) at (tree_of c.enter_repeat.new.grown)
    (ap (λ s. statement_menu m k (view_step s)) c.in-Repeat.is
    ∙ ap (repeat_menu k (view_step c.in-Repeat.body.value)) (sym (c.in_ok-count-in-Repeat.ensures ∙ ap (λ f. value_in (context_of f) (view_constraint c.in-Repeat.count)) c.deref-in-Repeat.ensures))
    ∙ ap (λ b. repeat_menu k (view_step b) c.in_ok-count-in-Repeat.count) (sym c.deref-in-Repeat-2.ensures)) (h m)) c.enter_repeat.ensures.reads

pub returns-in-If-clause-reads : goal.returns-in-If-clause-reads
returns-in-If-clause-reads c =
    let m = view_model c.args.model.now in
    let k = context_of c.args.frame.value in
    IfOk-weaker c.enter_if.result _ _ (λ at h. goes_menu m _ _ c.args.levels (Some c.args.parent) c.args.below.value (tree_of c.args.grown.now) at (tree_of c.enter_if.new.grown)
    (if_statement m k c.args.step.now c.in-If.condition c.in-If.yes c.in-If.no c.in-If.is
    ∙ ap (if_menu k (view_step c.in-If.yes.value) (step_of (maybe_step c.in-If.no))) (sym (c.in_ok-condition-in-If.ensures ∙ ap (λ f. value_in (context_of f) (view_constraint c.in-If.condition)) c.deref-in-If.ensures))
    ∙ ap (λ b. if_menu k (view_step b) (step_of (maybe_step c.in-If.no)) c.in_ok-condition-in-If.condition) (sym c.deref-in-If-2.ensures)) (h m)) c.enter_if.ensures.reads

pub returns-clause-reads : goal.returns-clause-reads
returns-clause-reads c =
    let m = view_model c.args.model.now in
    let k = context_of c.args.frame.value in
    let other = step_of (maybe_step c.in-Match.other) in
    IfOk-weaker c.enter_match.result _ _ (λ at h. goes_menu m _ _ c.args.levels (Some c.args.parent) c.args.below.value (tree_of c.args.grown.now) at (tree_of c.enter_match.new.grown)
    (match_statement m k c.args.step.now c.in-Match.value c.in-Match.arms c.in-Match.other c.in-Match.is
    ∙ ap (match_menu k (map view_arm c.in-Match.arms.items) other) (sym (c.in_ok-matched-in-Match.ensures ∙ ap (λ f. value_in (context_of f) (view_constraint c.in-Match.value)) c.deref-in-Match.ensures))
    ∙ ap (λ xs. match_menu k (map view_arm xs) other c.in_ok-matched-in-Match.matched) (sym c.as_slice-arms.ensures.value)) (h m)) c.enter_match.ensures.reads
