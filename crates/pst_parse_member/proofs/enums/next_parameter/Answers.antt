use Rattle.pst_ast.specs.DeclarationView.{view_parameter}
use Rattle.pst_ast.specs.Limits.{counted}
use Rattle.pst_parse_member.proofs.enums.next_parameter.Goals as goal
use Rattle.pst_parse_member.specs.Families.{next_parameter_family, parameter_family}
use Rattle.pst_reading.proofs.Reaching.{begin, step, mark_step, ends, fails}
use Rattle.pst_token.specs.declared.kind.Kind.TheVariants as kind
use Rattle.std.proofs.Common.{arith, ◌+◌}
use Rattle.std.proofs.lemmas.Result.{err_from_is_err_and}

pub returns-in_err-parameter : goal.returns-in_err-parameter
returns-in_err-parameter c =
    let p = err_from_is_err_and c.from_residual-in_err-parameter.result c.from_residual-in_err-parameter.ensures.1 in
    let r1 = mark_step (next_parameter_family c.args.depth) c.args.tokens.now c.args.at c.args.at kind.Comma (counted c.args.depth 0) _ c.args.at (c.args.at + 1) c.in_ok-comma.comma (omega arith) c.in_ok-comma.ensures.reads.0 (begin (next_parameter_family c.args.depth) c.args.tokens.now c.args.at c.args.at) in
    rw (p.1, p.2) (fails (next_parameter_family c.args.depth) c.args.tokens.now c.args.at c.args.at (parameter_family c.args.depth) _ (c.args.at + 1) (c.args.at + 1) c.in_err-parameter.field-0.0 (omega arith) c.in_err-parameter.ensures r1)

pub returns : goal.returns
returns c =
    let r1 = mark_step (next_parameter_family c.args.depth) c.args.tokens.now c.args.at c.args.at kind.Comma (counted c.args.depth 0) _ c.args.at (c.args.at + 1) c.in_ok-comma.comma (omega arith) c.in_ok-comma.ensures.reads.0 (begin (next_parameter_family c.args.depth) c.args.tokens.now c.args.at c.args.at) in
    let r2 = step (next_parameter_family c.args.depth) c.args.tokens.now c.args.at c.args.at (parameter_family c.args.depth) _ (c.args.at + 1) (c.args.at + 1) c.in_ok-parameter.after_parameter (view_parameter c.in_ok-parameter.parameter) (omega arith) (omega (arith, c.in_ok-parameter.ensures.after)) c.in_ok-parameter.ensures.settles r1 in
    record { settles = ends (next_parameter_family c.args.depth) c.args.tokens.now c.args.at c.args.at _ c.in_ok-parameter.after_parameter r2; after = omega (arith, c.in_ok-parameter.ensures.after); inside = c.in_ok-parameter.ensures.inside }
