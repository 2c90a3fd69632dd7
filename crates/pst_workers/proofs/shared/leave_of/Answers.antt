use Rattle.std.proofs.Common.{sym, ◌∙◌, inl, inr}
use Rattle.pst_workers.proofs.Working.{over}
use Rattle.pst_workers.proofs.shared.leave_of.Goals as goal
use Rattle.pst_workers.proofs.shared.leave_of.Goals.{then-stopped-via-then-stopped, then-stopped-via-else-stopped+then-finished}

pub of-requires : goal.of-requires
of-requires g c =
    elim c.then-stopped.branch [
      | then-stopped-via-then-stopped w ↦ inl (sym c.stopped.ensures ∙ w.if-stopped.true)
      | then-stopped-via-else-stopped+then-finished w ↦
          inr (over g.N.Name.scenario g.N.Name.plan g.N.Name.lanes c.args.desk.now.trace w.book.result.now w.book.ensures.book (w.finished.ensures.0 w.if-finished.true))
    ]
