use Rattle.pst_ast.specs.ExpressionView.{view_expr}
use Rattle.pst_ast.specs.Limits.{counted}
use Rattle.pst_parse_member.proofs.enums.enum_value.Goals as goal
use Rattle.pst_parse_member.specs.Families.{enum_value_family}
use Rattle.pst_parse_expr.specs.ConstraintFamilies.{outermost_family}
use Rattle.pst_reading.proofs.Reaching.{begin, step, mark_step, ends, fails}
use Rattle.pst_token.specs.declared.kind.Kind.TheVariants as kind
use Rattle.std.proofs.Common.{arith, ◌+◌}
use Rattle.std.proofs.lemmas.Result.{err_from_is_err_and}

pub returns-in_err-expr : goal.returns-in_err-expr
returns-in_err-expr c =
    let p = err_from_is_err_and c.from_residual-in_err-expr.result c.from_residual-in_err-expr.ensures.1 in
    let r1 = mark_step (enum_value_family c.args.depth) c.args.tokens.now c.args.at c.args.at kind.Equal (counted c.args.depth 0) _ c.args.at (c.args.at + 1) c.in_ok-equal.equal (omega arith) c.in_ok-equal.ensures.reads.0 (begin (enum_value_family c.args.depth) c.args.tokens.now c.args.at c.args.at) in
    rw (p.1, p.2) (fails (enum_value_family c.args.depth) c.args.tokens.now c.args.at c.args.at (outermost_family c.args.depth) _ (c.args.at + 1) (c.args.at + 1) c.in_err-expr.field-0.0 (omega arith) c.in_err-expr.ensures r1)

pub returns : goal.returns
returns c =
    let r1 = mark_step (enum_value_family c.args.depth) c.args.tokens.now c.args.at c.args.at kind.Equal (counted c.args.depth 0) _ c.args.at (c.args.at + 1) c.in_ok-equal.equal (omega arith) c.in_ok-equal.ensures.reads.0 (begin (enum_value_family c.args.depth) c.args.tokens.now c.args.at c.args.at) in
    let r2 = step (enum_value_family c.args.depth) c.args.tokens.now c.args.at c.args.at (outermost_family c.args.depth) _ (c.args.at + 1) (c.args.at + 1) c.in_ok-expr.after_expr (view_expr c.in_ok-expr.expr) (omega arith) (omega (arith, c.in_ok-expr.ensures.after)) c.in_ok-expr.ensures.settles r1 in
    record { settles = ends (enum_value_family c.args.depth) c.args.tokens.now c.args.at c.args.at _ c.in_ok-expr.after_expr r2; after = omega (arith, c.in_ok-expr.ensures.after); inside = c.in_ok-expr.ensures.inside }
