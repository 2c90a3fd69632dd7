use Rattle.std.proofs.Common.{vec_len}
use Rattle.pst_declaration_rules.specs.Tallied.{AreTallied}
use Rattle.pst_declaration_rules.proofs.tallies.settle_chain.Given as goal

abbrev pub invariant-loop-number : goal.invariant-loop-number
invariant-loop-number l = AreTallied l.known l.tallies

abbrev pub decreases-loop-number : goal.decreases-loop-number
decreases-loop-number l = vec_len l.chain
