use Rattle.std.proofs.Common.{length, ◌-◌}
use Rattle.pst_token.specs.declared.kind.Kind.TheVariants as kind
use Rattle.pst_reading.proofs.Lists.{ListLoop}
use Rattle.pst_parse_expr.specs.Constraints.{is_at}
use Rattle.pst_parse_expr.specs.ConstraintFamilies.{dot_name_family}
use Rattle.pst_parse_expr.proofs.shared.dot_names.Given as goal

abbrev pub invariant-names : goal.invariant-names
invariant-names l = ListLoop (is_at kind.Dot) (dot_name_family l.depth) l.tokens (l.fn.at - 1) l.fn.at l.names.items l.place

abbrev pub decreases-names : goal.decreases-names
decreases-names l = length l.tokens - l.place
