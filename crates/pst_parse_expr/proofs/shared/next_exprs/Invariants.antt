use Rattle.std.proofs.Common.{length, ◌-◌}
use Rattle.std.specs.Prelude.{map}
use Rattle.pst_token.specs.declared.kind.Kind.TheVariants as kind
use Rattle.pst_ast.specs.SharedView.{view_next_expr}
use Rattle.pst_reading.proofs.Lists.{ListLoop}
use Rattle.pst_parse_expr.specs.Constraints.{is_at}
use Rattle.pst_parse_expr.specs.ConstraintFamilies.{next_expr_family}
use Rattle.pst_parse_expr.proofs.shared.next_exprs.Given as goal

abbrev pub invariant-exprs : goal.invariant-exprs
invariant-exprs l = ListLoop (is_at kind.Comma) (next_expr_family l.depth) l.tokens (l.fn.at - 1) l.fn.at (map view_next_expr l.exprs.items) l.place

abbrev pub decreases-exprs : goal.decreases-exprs
decreases-exprs l = length l.tokens - l.place
