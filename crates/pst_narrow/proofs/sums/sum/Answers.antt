use Rattle.std.proofs.Common.{rules, FitsSigned, w64, to_z, of_z, ◌+ℤ◌, sym, subst}
use Rattle.std.proofs.lemmas.Int.{to_z-of_z}
use Rattle.pst_domain.specs.Laws.{HoldsValues}
use Rattle.pst_narrow.specs.Sums.{IsLowEnough, IsHighEnough}
use Rattle.pst_narrow.proofs.SumLemmas.{sum_holds}
use Rattle.pst_narrow.proofs.sums.sum.Goals as goal

pub returns : goal.returns
returns c p q bounds left right =
    let s = c.in_ok-left.left in
    let t = c.in_ok-right.right in
    let l = c.low_sum.result in
    let h = c.high_sum.result in
    let f0 : FitsSigned w64 s.low = search rules in
    let f1 : FitsSigned w64 s.high = search rules in
    let f2 : FitsSigned w64 t.low = search rules in
    let f3 : FitsSigned w64 t.high = search rules in
    let g0 : FitsSigned w64 l = search rules in
    let g1 : FitsSigned w64 h = search rules in
    let low : IsLowEnough (s.low +ℤ t.low) l = simp to_z-of_z at c.low_sum.ensures in
    let high : IsHighEnough (s.high +ℤ t.high) h = simp to_z-of_z at c.high_sum.ensures in
    sum_holds s t (record { low = to_z w64 (of_z w64 l); high = to_z w64 (of_z w64 h) }) (subst (λ v. IsLowEnough (s.low +ℤ t.low) v) (sym (to_z-of_z w64 l g0)) low) (subst (λ v. IsHighEnough (s.high +ℤ t.high) v) (sym (to_z-of_z w64 h g1)) high) p q bounds (subst (λ r. HoldsValues r p bounds) c.in_ok-left.was left) (subst (λ r. HoldsValues r q bounds) c.in_ok-right.was right)
