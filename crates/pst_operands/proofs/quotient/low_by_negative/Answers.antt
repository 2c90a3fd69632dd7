use Rattle.std.proofs.Common.{◌≡◌, pos, ◌+ℤ◌, ◌*ℤ◌, ◌≤ℤ◌, ◌<ℤ◌, FitsSigned, w64, rules, arith, sym, subst}
use Rattle.std.specs.Int.{w128}
use Rattle.std.proofs.lemmas.Int.{ints, to_z-of_z}
use Rattle.pst_operands.specs.Keeps.{Keeps}
use Rattle.pst_operands.proofs.Exactly.{exact}
use Rattle.pst_operands.proofs.Dividends.{low_under_by_negative, low_positive_by_negative}
use Rattle.pst_operands.proofs.quotient.low_by_negative.Goals as goal

pub returns-then-wanted-lt0 : goal.returns-then-wanted-lt0
returns-then-wanted-lt0 c =
    let f : FitsSigned w64 c.args.wanted.high = search rules in
    let g : FitsSigned w64 c.args.divisor.high = search rules in
    let h : FitsSigned w128 c.times.result = search rules in
    let e : c.times.result ≡ c.args.wanted.high *ℤ c.args.divisor.high = simp to_z-of_z at c.times.ensures in
    low_under_by_negative c.division_rounds_towards_zero.ensures c.args.span c.args.divisor c.args.wanted c.at_least.result c.requires (omega (arith, ints, c.if-wanted-lt0.true)) (subst (λ v. Keeps (λ x. v ≤ℤ x) c.args.span c.at_least.result) e (simp to_z-of_z at c.at_least.ensures))

pub returns-in-Some : goal.returns-in-Some
returns-in-Some c =
    let f : FitsSigned w64 c.args.wanted.high = search rules in
    let g : FitsSigned w64 c.args.divisor.low = search rules in
    let k : FitsSigned w64 c.in-Some.next = search rules in
    let h : FitsSigned w128 c.times-in-Some.result = search rules in
    let n : c.in-Some.next ≡ c.args.wanted.high +ℤ pos 1 = sym (exact (c.args.wanted.high +ℤ pos 1) c.in-Some.next (sym (simp to_z-of_z at c.in-Some.ensures))) in
    let e : c.times-in-Some.result ≡ c.in-Some.next *ℤ c.args.divisor.low = simp to_z-of_z at c.times-in-Some.ensures in
    low_positive_by_negative c.division_rounds_towards_zero.ensures c.args.span c.args.divisor c.args.wanted c.above.result c.requires c.in-Some.next (omega (arith, ints, c.if-wanted-lt0.false)) n (subst (λ v. Keeps (λ x. v <ℤ x) c.args.span c.above.result) e (simp to_z-of_z at c.above.ensures))
