-- Nothing is in an empty table.
use Rattle.std.proofs.Common.{arith}
use Rattle.pst_base.proofs.Texts.{different_bytes}
use Rattle.pst_base.proofs.table.Names.new.Goals as goal

pub invariant_of-result : goal.invariant_of-result
invariant_of-result c = record { fits = omega (arith, c.new.ensures.len); different = different_bytes c.new.result.keys c.new.ensures.unique }
