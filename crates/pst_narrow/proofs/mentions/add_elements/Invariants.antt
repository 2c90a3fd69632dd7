use Rattle.pst_narrow.specs.Mentions.{IsElement, AreNoted}
use Rattle.pst_narrow.proofs.mentions.add_elements.Given as goal

abbrev pub invariant-loop-i : goal.invariant-loop-i
invariant-loop-i l = AreNoted (IsElement l.first l.i) l.initial.numbers.items l.numbers.items
