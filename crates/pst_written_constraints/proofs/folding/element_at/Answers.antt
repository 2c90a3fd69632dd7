use Rattle.std.proofs.Common.{◌≡◌, w64, ℤ, pos, FitsSigned, rules, to_z, of_z, subst, sym}
use Rattle.std.specs.Prelude.{IfSome}
use Rattle.std.proofs.lemmas.Int.{to_z-of_z}
use Rattle.pst_expr.specs.declared.tree.Expr.{Expr}
use Rattle.pst_expr.specs.Tree.{Variable, Element, view}
use Rattle.pst_written_constraints.specs.Alike.{AreAlike}
use Rattle.pst_written_constraints.proofs.Folds.{is_value, placed}
use Rattle.pst_written_constraints.proofs.folding.element_at.Goals as goal

pub returns : goal.returns
returns c =
    let z : ℤ = c.in-Constant.index in
    let f : FitsSigned w64 z = search rules in
    let t : to_z w64 (of_z w64 z) ≡ z = to_z-of_z w64 z f in
    let q = c.in-Some.ensures.0 in
    let e : z ≡ pos c.in-Some.place = cc in
    subst (λ (x : Expr). IfSome c.checked_add.result (λ i. AreAlike (Element c.args.start c.args.count (view x)) (Variable i))) (sym c.in-Constant.is)
    (placed c.args.start c.args.count c.in-Some.place z c.checked_add.result (is_value z f) e c.in-Some.ensures.1 c.checked_add.ensures)
