use Rattle.std.proofs.Common.{◌≡◌, ◌<◌, ◌-◌, ℕ, length, get_or}
use Rattle.pst_static.specs.Standing.{CanJoin}
use Rattle.pst_static.proofs.standing.can_begin.Given as goal

abbrev pub decreases-members : goal.decreases-members
decreases-members l = length l.plan.groups - l.act

abbrev pub invariant-members : goal.invariant-members
invariant-members l = record {
  here : l.act < length l.plan.groups → get_or l.plan.groups l.act 0 ≡ l.group;
  done : (a : ℕ) → a < l.act → a < length l.plan.groups → get_or l.plan.groups a 0 ≡ l.group → CanJoin l.programs l.places l.started a;
}
