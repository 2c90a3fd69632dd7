use Rattle.std.proofs.Common.{length, ◌-◌}
use Rattle.pst_token.specs.declared.kind.Kind.TheVariants as kind
use Rattle.pst_reading.proofs.Lists.{ListLoop}
use Rattle.pst_parse_expr.specs.Constraints.{is_at}
use Rattle.pst_parse_step.specs.ActivityPartFamilies.{next_end_family}
use Rattle.pst_parse_step.proofs.parts.next_ends.Given as goal

abbrev pub invariant-ends : goal.invariant-ends
invariant-ends l = ListLoop (is_at kind.Comma) (next_end_family l.depth) l.tokens (l.fn.at - 1) l.fn.at l.ends.items l.place

abbrev pub decreases-ends : goal.decreases-ends
decreases-ends l = length l.tokens - l.place
