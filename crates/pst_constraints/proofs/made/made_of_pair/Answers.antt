use Rattle.std.proofs.Common.{arith, ◌≡◌, IfOk, List, ap, subst, ◌∙◌}
use Rattle.std.proofs.lemmas.Grind.{common_steps}
use Rattle.pst_ast.specs.ExpressionView.{view_expr}
use Rattle.pst_expr.specs.Tree.{Expression, Binary, view}
use Rattle.pst_expr.specs.declared.tree.BinaryOp.TheVariants.{NotEqual}
use Rattle.pst_model.specs.ConstraintTree.{ConstraintTree, SlotTree, view_constraint}
use Rattle.pst_numbering.specs.Kept.{view_all}
use Rattle.pst_path_readings.specs.Set.{view_setting}
use Rattle.pst_sources.specs.Shown.{sources_of}
use Rattle.pst_terms.specs.Readings.{expr_term}
use Rattle.pst_terms.specs.Slots.{with_term, numbered}
use Rattle.pst_constraints.specs.Implied.{implied_by, view_premises}
use Rattle.pst_constraints.proofs.Premised.{constraint, pair_is}
use Rattle.pst_constraints.proofs.made.made_of_pair.Goals as goal

pub returns : goal.returns
returns c =
    let s = sources_of c.args.sources.now in
    let setting = view_setting c.args.setting.now in
    let p = view_premises c.args.premises.now in
    let t = expr_term s setting (view_expr c.args.left.now) in
    let u = expr_term s setting (view_expr c.args.right.now) in
    let mid = view_all c.add_expr.new.slots.items in
    let slots = view_all c.add_expr-2.new.slots.items in
    let mids : mid ≡ with_term p.slots t = grind (arith, common_steps) in
    let all : slots ≡ with_term mid u = grind (arith, common_steps) in
    let first : view c.in_ok-left.left ≡ numbered mid t = grind (arith, common_steps) in
    let second : view c.in_ok-right.right ≡ numbered slots u = grind (arith, common_steps) in
    let left : c.in_ok-left-2.left.value ≡ c.in_ok-left.left = grind (arith, common_steps) in
    let right : c.in_ok-new.field-0.value ≡ c.in_ok-right.right = grind (arith, common_steps) in
    let kept : view_all c.as_slice-2.result.now ≡ slots = ap view_all c.as_slice-2.ensures.value in
    subst (λ (k : ConstraintTree). IfOk c.finished.result (λ r. view_constraint r ≡ k))
    ((λ i. constraint (implied_by p.conditions (Binary NotEqual (view (left i)) (view (right i)))) (kept i)) ∙ pair_is p t u mid slots (view c.in_ok-left.left) (view c.in_ok-right.right) mids all first second)
    c.finished.ensures
