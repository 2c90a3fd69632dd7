use Rattle.std.proofs.Common.{◌≡◌}
use Rattle.std.specs.Option.{option_and_then}
use Rattle.pst_ast.specs.Lookups.{member_of, member_within}
use Rattle.pst_index.proofs.index.Index.member_by_steps.Given as goal

abbrev pub invariant-loop-at : goal.invariant-loop-at
invariant-loop-at l = option_and_then (λ here. member_within l.left l.self here l.name) l.at ≡ member_of l.self l.action l.name

abbrev pub decreases-loop-at : goal.decreases-loop-at
decreases-loop-at l = l.left
