use Rattle.std.proofs.Common.{◌≡◌, ◌<◌, ◌-◌, ℕ, length, get_or}
use Rattle.pst_book.specs.Books.{MayJoin}
use Rattle.pst_book.proofs.open.all_may_join.Given as goal

abbrev pub decreases-members : goal.decreases-members
decreases-members l = length l.run.plan.groups - l.act

abbrev pub invariant-members : goal.invariant-members
invariant-members l = record {
  here : l.act < length l.run.plan.groups → get_or l.run.plan.groups l.act 0 ≡ l.group;
  passed : (a : ℕ) → a < l.act → get_or l.run.plan.groups a 0 ≡ l.group → MayJoin l.run.plan l.run.trace a;
}
