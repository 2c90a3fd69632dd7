use Rattle.std.proofs.Common.{◌≡◌, take}
use Rattle.pst_book.proofs.waiting.groups_of.Given as goal

abbrev pub invariant-loop-act : goal.invariant-loop-act
invariant-loop-act l = l.groups.items ≡ take l.act l.plan.groups
