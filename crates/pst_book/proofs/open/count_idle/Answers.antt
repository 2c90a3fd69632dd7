use Rattle.std.proofs.Common.{◌+◌, ◌≡◌, subst, sym, true, false, ◌∙◌}
use Rattle.pst_book.proofs.Idle.{Counted, counted_next, counted_same}
use Rattle.pst_book.proofs.open.count_idle.Goals as goal
use Rattle.pst_book.proofs.open.count_idle.Goals.{then-not-is_held, else-not-is_held}

pub loop-lane-preserved : goal.loop-lane-preserved
loop-lane-preserved c =
    elim c.if-not-is_held.branch [
      | then-not-is_held w ↦
          subst (λ n. Counted c.args.run.now.trace (c.loop-lane.lane + 1) n) (sym w.count-is)
          (counted_next c.args.run.now.trace c.loop-lane.lane c.loop-lane.count c.loop-lane.invariant (λ h. let both : true ≡ false = sym (c.is_held.ensures.1 h) ∙ w.if-not-is_held.true in cc))
      | else-not-is_held w ↦
          subst (λ n. Counted c.args.run.now.trace (c.loop-lane.lane + 1) n) (sym w.count-is)
          (counted_same c.args.run.now.trace c.loop-lane.lane c.loop-lane.count c.loop-lane.invariant (c.is_held.ensures.0 w.if-not-is_held.false))
    ]
