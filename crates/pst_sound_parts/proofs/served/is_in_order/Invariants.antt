use Rattle.std.proofs.Common.{◌↔◌, drop}
use Rattle.pst_model.specs.Served.{IsInOrder}
use Rattle.pst_sound_parts.proofs.served.is_in_order.Given as goal

-- all are in order where those left are
abbrev pub invariant-loop-index : goal.invariant-loop-index
invariant-loop-index l = IsInOrder (drop l.index l.served) ↔ IsInOrder l.served
