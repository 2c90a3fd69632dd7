use Rattle.std.proofs.Common.{◌≡◌, ◌≤◌, length}
use Rattle.pst_open_ends.specs.Turns.{NoneWants, AreNexts}
use Rattle.pst_open_ends.proofs.turns.next_wanting.Given as goal

abbrev pub invariant-loop-act : goal.invariant-loop-act
invariant-loop-act l = (l.number ≡ l.act-index) × ((length l.nexts.items ≤ l.number) × (AreNexts l.nexts.items l.acts × NoneWants l.acts (length l.nexts.items) l.number))
