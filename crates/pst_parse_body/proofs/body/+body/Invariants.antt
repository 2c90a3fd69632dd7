use Rattle.std.proofs.Common.{length, ◌+◌, ◌-◌, ◌*◌}
use Rattle.std.specs.Prelude.{map}
use Rattle.pst_token.specs.declared.kind.Kind.TheVariants as kind
use Rattle.pst_ast.specs.BodyView.{view_body_statement}
use Rattle.pst_reading.proofs.Lists.{ListLoop}
use Rattle.pst_parse_expr.specs.Constraints.{is_other}
use Rattle.pst_parse_body.specs.BodyFamilies.{nested_family}
use Rattle.pst_parse_body.proofs.body.+body.Given as goal

abbrev pub decreases-statements : goal.decreases-statements
decreases-statements l = (length l.tokens.now - l.at) * 8 + 3

abbrev pub decreases-statement : goal.decreases-statement
decreases-statement l = (length l.tokens.now - l.at) * 8 + 2

abbrev pub decreases-block : goal.decreases-block
decreases-block l = (length l.tokens.now - l.at) * 8

abbrev pub decreases-if_statement : goal.decreases-if_statement
decreases-if_statement l = (length l.tokens.now - l.at) * 8

abbrev pub decreases-loop_statement : goal.decreases-loop_statement
decreases-loop_statement l = (length l.tokens.now - l.at) * 8

abbrev pub invariant-statements-statements : goal.invariant-statements-statements
invariant-statements-statements l = ListLoop (is_other kind.RightBrace) (nested_family l.depth) l.tokens (l.fn.at - 1) l.fn.at (map view_body_statement l.statements.items) l.place

abbrev pub decreases-statements-statements : goal.decreases-statements-statements
decreases-statements-statements l = length l.tokens - l.place
