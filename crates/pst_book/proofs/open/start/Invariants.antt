use Rattle.std.proofs.Common.{◌≡◌, ◌<◌, ◌≤◌, ◌-◌, ℕ, length, get_or}
use Rattle.std.specs.Prelude.{◌↔◌}
use Rattle.pst_scen.specs.Trace.{Started, IsHeld}
use Rattle.pst_book.proofs.Starting.{Starting}
use Rattle.pst_book.proofs.open.start.Given as goal

abbrev pub decreases-members : goal.decreases-members
decreases-members l = length l.fn.run.plan.groups - l.act

abbrev pub invariant-members : goal.invariant-members
invariant-members l = record {
  plan : l.run.plan ≡ l.fn.run.plan;
  lanes : l.run.lanes ≡ l.fn.run.lanes;
  here : l.act < length l.fn.run.plan.groups → get_or l.fn.run.plan.groups l.act 0 ≡ l.group;
  fresh : (a : ℕ) → l.act ≤ a → a < length l.fn.run.plan.groups → get_or l.fn.run.plan.groups a 0 ≡ l.group → Started l.run.trace a → ⊥;
  held : (x : ℕ) → l.lane ≤ x → IsHeld l.run.trace x ↔ IsHeld l.fn.run.trace x;
  starting : Starting l.fn.run.trace l.run.trace l.fn.run.plan.groups l.group l.fn.run.lanes l.act l.left l.lane l.fn.run.room l.run.room;
}
