use Rattle.std.proofs.Common.{◌<◌, ◌≤◌, ℕ}
use Rattle.pst_book.specs.Ready.{IsReadyGroup}
use Rattle.pst_book.proofs.ready.is_any_ready.Given as goal

abbrev pub invariant-loop-group : goal.invariant-loop-group
invariant-loop-group l = (group : ℕ) → l.first ≤ group → group < l.group → IsReadyGroup l.run.plan l.run.trace group → ⊥
