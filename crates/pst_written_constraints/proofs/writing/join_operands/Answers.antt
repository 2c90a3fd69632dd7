use Rattle.std.proofs.Common.{◌≡◌, w64, ℤ, FitsSigned, rules, to_z, of_z, sym, subst}
use Rattle.std.proofs.lemmas.Int.{to_z-of_z}
use Rattle.pst_expr.specs.Tree.{Constant, Binary, view}
use Rattle.pst_written_constraints.specs.Terms.{IsMirror}
use Rattle.pst_written_constraints.proofs.Mirrors.{binary_mirror, alike_mirror}
use Rattle.pst_written_constraints.proofs.writing.join_operands.Goals as goal

pub returns-in-Some : goal.returns-in-Some
returns-in-Some c =
    let n : ℤ = c.in-Some.number in
    let f : FitsSigned w64 n = search rules in
    let z : to_z w64 (of_z w64 n) ≡ n = to_z-of_z w64 n f in
    λ terms a b first second. subst (λ (v : ℤ). IsMirror terms (Binary c.args.op a b) (Constant v)) (sym z)
    (alike_mirror terms (Binary c.args.op a b) (Binary c.args.op (view c.args.left) (view c.args.right)) (Constant n) c.in-Some.ensures
    (binary_mirror terms c.args.op a b (view c.args.left) (view c.args.right) first second))

pub returns-in_ok-written-in-None : goal.returns-in_ok-written-in-None
returns-in_ok-written-in-None c = λ terms a b first second.
    subst (IsMirror terms (Binary c.args.op a b)) (sym c.in_ok-written-in-None.ensures) (binary_mirror terms c.args.op a b (view c.args.left) (view c.args.right) first second)
