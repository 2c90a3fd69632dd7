use Rattle.std.proofs.Common.{take}
use Rattle.pst_type_rules.specs.Typed.{AreInOrder}
use Rattle.pst_typed_uses.specs.InOrder.{HaveSame}
use Rattle.pst_typed_uses.proofs.in_order.each_once.Given as goal

abbrev pub invariant-loop-constant : goal.invariant-loop-constant
invariant-loop-constant l = record {
  order : AreInOrder l.found.items;
  each : HaveSame l.found.items (take l.constant-index l.sorted);
}
