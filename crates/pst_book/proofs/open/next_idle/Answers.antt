use Rattle.std.proofs.Common.{◌≤◌}
use Rattle.pst_scen.specs.Trace.{IsHeld}
use Rattle.pst_book.proofs.Loops.{one_more}
use Rattle.pst_book.proofs.open.next_idle.Goals as goal

pub loop-lane-preserved : goal.loop-lane-preserved
loop-lane-preserved c =
    λ x f l. one_more (λ x. c.args.from ≤ x → IsHeld c.args.run.now.trace x) c.loop-lane.lane (λ x l f. c.loop-lane.invariant x f l) (λ f. c.is_held.ensures.0 c.if-not-is_held.false) x l f
