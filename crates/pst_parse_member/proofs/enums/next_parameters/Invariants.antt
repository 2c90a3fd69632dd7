use Rattle.pst_ast.specs.DeclarationView.{view_next_parameter}
use Rattle.pst_parse_member.proofs.enums.next_parameters.Given as goal
use Rattle.pst_parse_member.specs.Families.{next_parameter_family}
use Rattle.pst_parse_expr.specs.Constraints.{is_at}
use Rattle.pst_reading.proofs.Lists.{ListLoop}
use Rattle.pst_token.specs.declared.kind.Kind.TheVariants as kind
use Rattle.std.proofs.Common.{◌-◌, map, length}

abbrev pub invariant-others : goal.invariant-others
invariant-others l = ListLoop (is_at kind.Comma) (next_parameter_family l.depth) l.tokens (l.fn.at - 1) l.fn.at (map view_next_parameter l.others.items) l.place

abbrev pub decreases-others : goal.decreases-others
decreases-others l = length l.tokens - l.place
