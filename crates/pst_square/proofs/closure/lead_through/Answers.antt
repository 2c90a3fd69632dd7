use Rattle.std.proofs.Common.{refl}
use Rattle.pst_square.proofs.Joins.{leads_joined}
use Rattle.pst_square.proofs.closure.lead_through.Goals as goal

pub returns-then-has_bit : goal.returns-then-has_bit
returns-then-has_bit c =
    leads_joined c.args.row c.args.words.now c.join_row.new.words c.args.a c.args.m c.join_row.ensures (c.if-has_bit.ensures.0 refl)
