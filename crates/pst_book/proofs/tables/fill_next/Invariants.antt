use Rattle.std.proofs.Common.{◌≡◌, ◌<◌, ◌≤◌, ℕ, length, get_or}
use Rattle.pst_book.specs.Tables.{IsNext}
use Rattle.pst_book.proofs.Founding.{IsSeen}
use Rattle.pst_book.proofs.tables.fill_next.Given as goal

abbrev pub decreases-acts : goal.decreases-acts
decreases-acts l = l.left

abbrev pub invariant-acts : goal.invariant-acts
invariant-acts l = record {
  below : l.left ≤ length l.plan.groups;
  many_next : length l.next ≡ length l.plan.groups;
  many_seen : length l.seen ≡ length l.plan.groups;
  next_is : (a : ℕ) → l.left ≤ a → a < length l.plan.groups → IsNext l.plan.groups a (get_or l.next a 0);
  seen_is : (g : ℕ) → g < length l.plan.groups → IsSeen l.plan.groups l.left g (get_or l.seen g 0);
}
