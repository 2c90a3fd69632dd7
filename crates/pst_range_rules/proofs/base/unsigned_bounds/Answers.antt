use Rattle.std.proofs.Common.{◌≡◌, ℤ, int_lt, pos, true, subst}
use Rattle.std.proofs.lemmas.Int.{to_z-of_z}
use Rattle.pst_range_rules.proofs.Bounds.{unsigned_wide}
use Rattle.pst_range_rules.proofs.Tests.{by_lt}
use Rattle.pst_range_rules.proofs.base.unsigned_bounds.Goals as goal

pub returns-then-width-gt62 : goal.returns-then-width-gt62
returns-then-width-gt62 c =
    unsigned_wide c.args.width (by_lt (pos 62) c.args.width (subst (λ (z : ℤ). int_lt (pos 62) z ≡ true) (to_z-of_z _ c.args.width c.ranges.width) c.if-width-gt62.true))
