use Rattle.std.specs.Prelude.{IfSome}
use Rattle.pst_touched.specs.Ways.{HasWay, HasOlds}
use Rattle.pst_touched.proofs.upward.add_new.Given as goal

abbrev pub invariant-loop-n : goal.invariant-loop-n
invariant-loop-n l = IfSome l.last (λ parent. HasWay l.nodes l.found.items parent) × HasOlds l.nodes l.from l.found.items l.n
