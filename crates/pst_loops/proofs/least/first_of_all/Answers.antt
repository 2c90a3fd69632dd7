use Rattle.std.proofs.Common.{◌≡◌, subst, ℕ, length, arith}
use Rattle.pst_loops.specs.First.{IsFirstWithin}
use Rattle.pst_loops.proofs.OneMore.{whole}
use Rattle.pst_loops.proofs.least.first_of_all.Goals as goal

pub returns : goal.returns
returns c =
    let e : c.loop-at.at ≡ length c.args.declarations.now = omega arith in
    whole c.args.declarations.now c.loop-at.found (subst (λ (n : ℕ). IsFirstWithin n c.args.declarations.now c.loop-at.found) e c.loop-at.invariant)
