use Rattle.std.proofs.Common.{◌≡◌, pos, FitsSigned, w64, to_z, of_z, Some, rules, arith, sym}
use Rattle.std.proofs.lemmas.Int.{ints, to_z-of_z}
use Rattle.pst_num.specs.Shifts.{shifted_left}
use Rattle.pst_operands.proofs.Shifted.{power_of, powers_of}
use Rattle.pst_operands.proofs.shifts.powers.Goals as goal

pub returns : goal.returns
returns c n at =
    let s = c.args.counts in
    let low = c.in_ok-low.low in
    let high = c.in_ok-high.high in
    let f0 : FitsSigned w64 s.low = search rules in
    let f1 : FitsSigned w64 s.high = search rules in
    let f2 : FitsSigned w64 low = search rules in
    let f3 : FitsSigned w64 high = search rules in
    let h : Some low ≡ shifted_left (pos 1) (to_z w64 (of_z w64 s.low)) = c.in_ok-low.ensures in
    let k : Some high ≡ shifted_left (pos 1) (to_z w64 (of_z w64 s.high)) = c.in_ok-high.ensures in
    let lowest = power_of s.low low (sym (simp to_z-of_z at h)) in
    let highest = power_of s.high high (sym (simp to_z-of_z at k)) in
    let q = powers_of s (record { low = low; high = high }) lowest highest n at in
    (omega (arith, ints, q.0), omega (arith, ints, q.1))
