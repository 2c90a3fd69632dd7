use Rattle.std.proofs.Common.{◌≡◌, ◌<◌, ◌≤◌, ◌-◌, ℕ, length, get_or, true, false}
use Rattle.pst_tallies.specs.Tallies.{counts_in}
use Rattle.pst_static.specs.Taking.{AreOwed, AreHinted}
use Rattle.pst_static.proofs.order.take_group.Given as goal

abbrev pub decreases-members : goal.decreases-members
decreases-members l = length l.plan.groups - l.act

abbrev pub invariant-members : goal.invariant-members
invariant-members l = record {
  here : l.act < length l.plan.groups → get_or l.plan.groups l.act 0 ≡ l.group;
  owed : AreOwed l.plan (counts_in (length l.plan.groups) l.awaited) l.taken;
  hinted : AreHinted l.plan (counts_in (length l.plan.groups) l.awaited) l.taken l.hints;
  done : (a : ℕ) → a < l.act → get_or l.plan.groups a 0 ≡ l.group → get_or l.taken a false ≡ true;
  rest : (a : ℕ) → l.act ≤ a → get_or l.taken a false ≡ get_or l.fn.taken a false;
  others : (a : ℕ) → (get_or l.plan.groups a 0 ≡ l.group → ⊥) → get_or l.taken a false ≡ get_or l.fn.taken a false;
}
