use Rattle.pst_declaration_rules.specs.Tallied.{AreTallied}
use Rattle.pst_declaration_rules.proofs.tallies.settle_all.Given as goal

abbrev pub invariant-loop-at : goal.invariant-loop-at
invariant-loop-at l = AreTallied l.known l.tallies
