use Rattle.pst_ast.specs.DeclarationView.{view_parameters}
use Rattle.pst_parse_part.proofs.Maybe.{present_given, present_fails}
use Rattle.pst_parse_member.proofs.enums.maybe_parameters.Goals as goal
use Rattle.pst_parse_member.specs.Families.{parameters_family}
use Rattle.pst_parse_expr.specs.Constraints.{is_other}
use Rattle.pst_token.specs.declared.kind.Kind.TheVariants as kind
use Rattle.std.proofs.Common.{arith, rules}
use Rattle.std.proofs.lemmas.Result.{err_from_is_err_and}

pub returns-in_err-parameters : goal.returns-in_err-parameters
returns-in_err-parameters c =
    let p = err_from_is_err_and c.from_residual.result c.from_residual.ensures.1 in
    rw (p.1, p.2) (present_fails (is_other kind.RightParenthesis) (parameters_family c.args.depth) c.args.tokens.now c.args.at (search rules) c.in_err-parameters.field-0.0 c.in_err-parameters.ensures)

pub returns : goal.returns
returns c = record { settles = present_given (is_other kind.RightParenthesis) (parameters_family c.args.depth) c.args.tokens.now c.args.at (search rules) (view_parameters c.in_ok-parameters.parameters) c.in_ok-parameters.after c.in_ok-parameters.ensures.settles; after = omega (arith, c.in_ok-parameters.ensures.after); inside = c.in_ok-parameters.ensures.inside }
