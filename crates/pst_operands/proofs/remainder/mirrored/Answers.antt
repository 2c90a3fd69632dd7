use Rattle.std.proofs.Common.{◌≡◌, FitsSigned, w64, to_z, of_z, neg_ℤ, Some, rules, arith, sym}
use Rattle.std.proofs.lemmas.Int.{ints, to_z-of_z}
use Rattle.pst_num.specs.Arithmetic.{negation_of}
use Rattle.pst_operands.proofs.Exactly.{exact}
use Rattle.pst_operands.proofs.remainder.mirrored.Goals as goal

pub returns : goal.returns
returns c =
    let s = c.args.span in
    let low = c.in_ok-low.low in
    let high = c.in_ok-high.high in
    let f0 : FitsSigned w64 s.low = search rules in
    let f1 : FitsSigned w64 s.high = search rules in
    let f2 : FitsSigned w64 low = search rules in
    let f3 : FitsSigned w64 high = search rules in
    let h : Some low ≡ negation_of (to_z w64 (of_z w64 s.high)) = c.in_ok-low.ensures in
    let k : Some high ≡ negation_of (to_z w64 (of_z w64 s.low)) = c.in_ok-high.ensures in
    let a : low ≡ neg_ℤ s.high = sym (exact (neg_ℤ s.high) low (sym (simp to_z-of_z at h))) in
    let b : high ≡ neg_ℤ s.low = sym (exact (neg_ℤ s.low) high (sym (simp to_z-of_z at k))) in
    record { low = omega (arith, ints, a); high = omega (arith, ints, b) }
