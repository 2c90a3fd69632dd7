use Rattle.std.proofs.Common.{ℕ, ◌+◌, ◌*◌, ◌^◌, ◌≤◌, List}
use Rattle.pst_expr.specs.Tree.{view}
use Rattle.pst_expr.proofs.Weight.{weight}
use Rattle.pst_domain.specs.Bounds.{HasVariablesBelow}
use Rattle.pst_narrow.specs.Mentions.{Mentions, AreNoted}
use Rattle.pst_narrow.proofs.mentions.+mentions.Given as goal

abbrev pub decreases-add_mentioned : goal.decreases-add_mentioned
decreases-add_mentioned l = 2 * weight (view l.expr.now) + 1

abbrev pub decreases-add_of_operands : goal.decreases-add_of_operands
decreases-add_of_operands l = 2 * weight (view l.expr.now)

abbrev pub invariant-add_mentioned-loop-depth : goal.invariant-add_mentioned-loop-depth
invariant-add_mentioned-loop-depth l = record {
  light : weight (view l.part) ≤ weight (view l.expr);
  below : HasVariablesBelow (2 ^ 32) (view l.part);
  more : (all : List ℕ) → AreNoted (Mentions (view l.part)) l.numbers.items all → AreNoted (Mentions (view l.expr)) l.initial.numbers.items all;
}
