use Rattle.std.proofs.Common.{◌≡◌, FitsSigned, w64, Some, rules, arith, subst}
use Rattle.std.specs.Int.{w128}
use Rattle.std.proofs.lemmas.Int.{ints, to_z-of_z}
use Rattle.pst_num.specs.Bits.{bits_and}
use Rattle.pst_operands.proofs.Masks.{masked_cut}
use Rattle.pst_operands.proofs.bits.masked.Goals as goal

pub returns-then-mask : goal.returns-then-mask
returns-then-mask c =
    let f0 : FitsSigned w64 c.args.span.low = search rules in
    let f1 : FitsSigned w64 c.args.span.high = search rules in
    let f2 : FitsSigned w64 c.args.wanted.low = search rules in
    let g0 : FitsSigned w128 c.from.result = search rules in
    let e0 : c.from.result ≡ c.args.wanted.low = omega (arith, ints, c.from.ensures) in
    let cut = masked_cut c.args.span c.args.mask c.args.wanted c.at_least-cut.result c.from.result (omega (arith, ints, c.if-span-lt0.false)) (omega (arith, ints)) e0 (simp to_z-of_z at c.at_least-cut.ensures) in
    cut

pub returns-then-cut-lt0 : goal.returns-then-cut-lt0
returns-then-cut-lt0 c =
    let f0 : FitsSigned w64 c.args.span.low = search rules in
    let f1 : FitsSigned w64 c.args.span.high = search rules in
    let f2 : FitsSigned w64 c.args.wanted.low = search rules in
    let g0 : FitsSigned w128 c.from.result = search rules in
    let e0 : c.from.result ≡ c.args.wanted.low = omega (arith, ints, c.from.ensures) in
    let cut = masked_cut c.args.span c.args.mask c.args.wanted c.at_least-cut.result c.from.result (omega (arith, ints, c.if-span-lt0.false)) (omega (arith, ints)) e0 (simp to_z-of_z at c.at_least-cut.ensures) in
    cut

pub returns-then-cut-lt0-2 : goal.returns-then-cut-lt0-2
returns-then-cut-lt0-2 c =
    let f0 : FitsSigned w64 c.args.span.low = search rules in
    let f1 : FitsSigned w64 c.args.span.high = search rules in
    let f2 : FitsSigned w64 c.args.wanted.low = search rules in
    let g0 : FitsSigned w128 c.from.result = search rules in
    let e0 : c.from.result ≡ c.args.wanted.low = omega (arith, ints, c.from.ensures) in
    let cut = masked_cut c.args.span c.args.mask c.args.wanted c.at_least-cut.result c.from.result (omega (arith, ints, c.if-span-lt0.false)) (omega (arith, ints)) e0 (simp to_z-of_z at c.at_least-cut.ensures) in
    cut

pub returns : goal.returns
returns c x y z h k l e =
    let f0 : FitsSigned w64 c.args.span.low = search rules in
    let f1 : FitsSigned w64 c.args.span.high = search rules in
    let f2 : FitsSigned w64 c.args.wanted.low = search rules in
    let g0 : FitsSigned w128 c.from.result = search rules in
    let e0 : c.from.result ≡ c.args.wanted.low = omega (arith, ints, c.from.ensures) in
    let cut = masked_cut c.args.span c.args.mask c.args.wanted c.at_least-cut.result c.from.result (omega (arith, ints, c.if-span-lt0.false)) (omega (arith, ints)) e0 (simp to_z-of_z at c.at_least-cut.ensures) in
    let f3 : FitsSigned w64 c.args.mask.low = search rules in
    let f4 : FitsSigned w64 c.args.mask.high = search rules in
    let is : y ≡ c.args.mask.low = omega (arith, ints, k.0, k.1, c.if-mask.false) in
    let keeps = simp to_z-of_z at c.by_mask.ensures in
    keeps x z (cut x y z h k l e) l (subst (λ v. bits_and x v ≡ Some z) is e)
