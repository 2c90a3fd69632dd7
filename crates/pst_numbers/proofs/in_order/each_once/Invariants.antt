use Rattle.std.proofs.Common.{take}
use Rattle.pst_ast.specs.Scopes.{AreInOrder}
use Rattle.pst_numbers.specs.Meanings.{HaveSame}
use Rattle.pst_numbers.proofs.in_order.each_once.Given as goal

abbrev pub invariant-loop-meaning : goal.invariant-loop-meaning
invariant-loop-meaning l = record {
  order : AreInOrder l.found.items;
  each : HaveSame l.found.items (take l.meaning-index l.sorted);
}
