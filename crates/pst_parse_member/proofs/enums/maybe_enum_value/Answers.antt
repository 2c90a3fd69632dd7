use Rattle.pst_ast.specs.DeclarationView.{view_enum_value}
use Rattle.pst_parse_part.proofs.Maybe.{present_given, present_fails}
use Rattle.pst_parse_member.proofs.enums.maybe_enum_value.Goals as goal
use Rattle.pst_parse_member.specs.Families.{enum_value_family}
use Rattle.pst_parse_expr.specs.Constraints.{is_at}
use Rattle.pst_token.specs.declared.kind.Kind.TheVariants as kind
use Rattle.std.proofs.Common.{arith, rules}
use Rattle.std.proofs.lemmas.Result.{err_from_is_err_and}

pub returns-in_err-enum_value : goal.returns-in_err-enum_value
returns-in_err-enum_value c =
    let p = err_from_is_err_and c.from_residual.result c.from_residual.ensures.1 in
    rw (p.1, p.2) (present_fails (is_at kind.Equal) (enum_value_family c.args.depth) c.args.tokens.now c.args.at (search rules) c.in_err-enum_value.field-0.0 c.in_err-enum_value.ensures)

pub returns : goal.returns
returns c = record { settles = present_given (is_at kind.Equal) (enum_value_family c.args.depth) c.args.tokens.now c.args.at (search rules) (view_enum_value c.in_ok-enum_value.enum_value) c.in_ok-enum_value.after c.in_ok-enum_value.ensures.settles; after = omega (arith, c.in_ok-enum_value.ensures.after); inside = c.in_ok-enum_value.ensures.inside }
