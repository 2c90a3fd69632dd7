use Rattle.std.proofs.Common.{arith, ◌≡◌, ap, sym, ◌∙◌}
use Rattle.std.proofs.lemmas.Grind.{common_steps}
use Rattle.pst_expr.specs.Tree.{Expression, Binary, view}
use Rattle.pst_expr.specs.declared.tree.BinaryOp.TheVariants.{Implies}
use Rattle.std.specs.Prelude.{map, ◌++◌, ◌∷◌, []}
use Rattle.pst_constraints.specs.Implied.{implied_by}
use Rattle.pst_constraints.proofs.Premised.{implied_last}
use Rattle.pst_constraints.proofs.made.implied.Goals as goal

pub loop-last-preserved : goal.loop-last-preserved
loop-last-preserved c =
    let left : c.loop-last.left.now ≡ c.in-Some.before.now ++ c.in-Some.last.now ∷ [] = grind (arith, common_steps) in
    let copy : view c.in_ok-condition.condition.value ≡ view c.in-Some.last.now = grind (arith, common_steps) in
    let rest : c.in_ok-new.field-0.value ≡ c.loop-last.found = grind (arith, common_steps) in
    ap (λ (e : _). implied_by (map view c.in-Some.before.now) (Binary Implies (view c.in_ok-condition.condition.value) (view e))) rest
    ∙ sym (implied_last c.loop-last.left.now c.in-Some.before.now c.in-Some.last.now (view c.in_ok-condition.condition.value) (view c.loop-last.found) left copy)
    ∙ c.loop-last.invariant
