use Rattle.std.proofs.Common.{◌<◌, ◌*◌, ℕ, length}
use Rattle.pst_book.specs.Books.{CanStart}
use Rattle.pst_book.specs.Ready.{AreReady}
use Rattle.pst_book.proofs.ready.candidate.Given as goal

abbrev pub invariant-loop-place : goal.invariant-loop-place
invariant-loop-place l = record {
  ready : AreReady l.run.plan l.run.trace l.marks;
  none : (group : ℕ) → group < l.place * 64 → group < length l.run.plan.groups → CanStart l.run.plan l.run.lanes l.run.trace group → ⊥;
}
