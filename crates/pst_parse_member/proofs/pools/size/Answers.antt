use Rattle.pst_ast.specs.ExpressionView.{view_expr}
use Rattle.pst_ast.specs.Limits.{counted}
use Rattle.pst_parse_member.proofs.pools.size.Goals as goal
use Rattle.pst_parse_member.specs.Families.{size_family}
use Rattle.pst_parse_expr.specs.ConstraintFamilies.{outermost_family}
use Rattle.pst_reading.proofs.Reaching.{begin, step, mark_step, ends, fails, mark_fails}
use Rattle.pst_token.specs.declared.kind.Kind.TheVariants as kind
use Rattle.std.proofs.Common.{arith, ◌+◌}
use Rattle.std.proofs.lemmas.Result.{err_from_is_err_and}

pub returns-in_err-expr : goal.returns-in_err-expr
returns-in_err-expr c =
    let p = err_from_is_err_and c.from_residual-in_err-expr.result c.from_residual-in_err-expr.ensures.1 in
    let r1 = mark_step (size_family c.args.depth) c.args.tokens.now c.args.at c.args.at kind.LeftBracket (counted c.args.depth 0) _ c.args.at (c.args.at + 1) c.in_ok-left_bracket.left_bracket (omega arith) c.in_ok-left_bracket.ensures.reads.0 (begin (size_family c.args.depth) c.args.tokens.now c.args.at c.args.at) in
    rw (p.1, p.2) (fails (size_family c.args.depth) c.args.tokens.now c.args.at c.args.at (outermost_family c.args.depth) _ (c.args.at + 1) (c.args.at + 1) c.in_err-expr.field-0.0 (omega arith) c.in_err-expr.ensures r1)

pub returns-in_err-right_bracket : goal.returns-in_err-right_bracket
returns-in_err-right_bracket c =
    let p = err_from_is_err_and c.from_residual-in_err-right_bracket.result c.from_residual-in_err-right_bracket.ensures.1 in
    let r1 = mark_step (size_family c.args.depth) c.args.tokens.now c.args.at c.args.at kind.LeftBracket (counted c.args.depth 0) _ c.args.at (c.args.at + 1) c.in_ok-left_bracket.left_bracket (omega arith) c.in_ok-left_bracket.ensures.reads.0 (begin (size_family c.args.depth) c.args.tokens.now c.args.at c.args.at) in
    let r2 = step (size_family c.args.depth) c.args.tokens.now c.args.at c.args.at (outermost_family c.args.depth) _ (c.args.at + 1) (c.args.at + 1) c.in_ok-expr.after_expr (view_expr c.in_ok-expr.expr) (omega arith) (omega (arith, c.in_ok-expr.ensures.after)) c.in_ok-expr.ensures.settles r1 in
    rw (p.1, p.2) (mark_fails (size_family c.args.depth) c.args.tokens.now c.args.at c.args.at kind.RightBracket (counted c.args.depth 0) _ c.in_ok-expr.after_expr c.in_err-right_bracket.field-0.0 c.in_ok-expr.ensures.inside c.in_err-right_bracket.ensures.reads r2)

pub returns : goal.returns
returns c =
    let r1 = mark_step (size_family c.args.depth) c.args.tokens.now c.args.at c.args.at kind.LeftBracket (counted c.args.depth 0) _ c.args.at (c.args.at + 1) c.in_ok-left_bracket.left_bracket (omega arith) c.in_ok-left_bracket.ensures.reads.0 (begin (size_family c.args.depth) c.args.tokens.now c.args.at c.args.at) in
    let r2 = step (size_family c.args.depth) c.args.tokens.now c.args.at c.args.at (outermost_family c.args.depth) _ (c.args.at + 1) (c.args.at + 1) c.in_ok-expr.after_expr (view_expr c.in_ok-expr.expr) (omega arith) (omega (arith, c.in_ok-expr.ensures.after)) c.in_ok-expr.ensures.settles r1 in
    let r3 = mark_step (size_family c.args.depth) c.args.tokens.now c.args.at c.args.at kind.RightBracket (counted c.args.depth 0) _ c.in_ok-expr.after_expr (c.in_ok-expr.after_expr + 1) c.in_ok-right_bracket.right_bracket (omega arith) c.in_ok-right_bracket.ensures.reads.0 r2 in
    record { settles = ends (size_family c.args.depth) c.args.tokens.now c.args.at c.args.at _ (c.in_ok-expr.after_expr + 1) r3; after = omega (arith, c.in_ok-expr.ensures.after); inside = (omega (arith, c.in_ok-right_bracket.ensures.reads.1)) }
