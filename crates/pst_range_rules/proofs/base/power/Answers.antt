use Rattle.std.proofs.Common.{arith}
use Rattle.std.proofs.lemmas.Nat.{pow_below}
use Rattle.pst_range_rules.proofs.base.power.Goals as goal

pub pow-requires : goal.pow-requires
pow-requires c = record { sfits = pow_below c.args.exponent 63 (omega (arith, c.requires)) }
