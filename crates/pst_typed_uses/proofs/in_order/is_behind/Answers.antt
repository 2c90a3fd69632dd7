use Rattle.std.proofs.Common.{sym}
use Rattle.pst_typed_uses.proofs.BehindPlaces.{goes_behind}
use Rattle.pst_typed_uses.proofs.in_order.is_behind.Goals as goal

pub returns-in-Some : goal.returns-in-Some
returns-in-Some c = λ yes order. goes_behind c.args.constant c.args.found.now c.in-Some.last.now (sym c.in-Some.ensures.value) (c.is_before.ensures.0 yes) order
