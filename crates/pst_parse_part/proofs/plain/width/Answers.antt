use Rattle.pst_ast.specs.ExpressionView.{view_expr}
use Rattle.pst_ast.specs.Limits.{counted}
use Rattle.pst_ast.specs.SharedView.{view_low}
use Rattle.pst_parse_part.proofs.plain.width.Goals as goal
use Rattle.pst_parse_part.specs.Choices.{optional}
use Rattle.pst_parse_part.specs.Families.{width_family, low_family}
use Rattle.pst_parse_expr.specs.ConstraintFamilies.{outermost_family}
use Rattle.pst_parse_expr.specs.Constraints.{is_at}
use Rattle.pst_reading.proofs.Reaching.{begin, step, mark_step, ends, fails, mark_fails}
use Rattle.pst_token.specs.declared.kind.Kind.TheVariants as kind
use Rattle.std.proofs.Common.{arith, ◌+◌}
use Rattle.std.proofs.lemmas.Result.{err_from_is_err_and}
use Rattle.std.specs.Option.{option_map}

pub returns-in_err-expr : goal.returns-in_err-expr
returns-in_err-expr c =
    let p = err_from_is_err_and c.from_residual-in_err-expr.result c.from_residual-in_err-expr.ensures.1 in
    let r1 = mark_step (width_family c.args.depth) c.args.tokens.now c.args.at c.args.at kind.LeftBracket (counted c.args.depth 0) _ c.args.at (c.args.at + 1) c.in_ok-left_bracket.left_bracket (omega arith) c.in_ok-left_bracket.ensures.reads.0 (begin (width_family c.args.depth) c.args.tokens.now c.args.at c.args.at) in
    rw (p.1, p.2) (fails (width_family c.args.depth) c.args.tokens.now c.args.at c.args.at (outermost_family c.args.depth) _ (c.args.at + 1) (c.args.at + 1) c.in_err-expr.field-0.0 (omega arith) c.in_err-expr.ensures r1)

pub returns-in_err-low : goal.returns-in_err-low
returns-in_err-low c =
    let p = err_from_is_err_and c.from_residual-in_err-low.result c.from_residual-in_err-low.ensures.1 in
    let r1 = mark_step (width_family c.args.depth) c.args.tokens.now c.args.at c.args.at kind.LeftBracket (counted c.args.depth 0) _ c.args.at (c.args.at + 1) c.in_ok-left_bracket.left_bracket (omega arith) c.in_ok-left_bracket.ensures.reads.0 (begin (width_family c.args.depth) c.args.tokens.now c.args.at c.args.at) in
    let r2 = step (width_family c.args.depth) c.args.tokens.now c.args.at c.args.at (outermost_family c.args.depth) _ (c.args.at + 1) (c.args.at + 1) c.in_ok-expr.after_expr (view_expr c.in_ok-expr.expr) (omega arith) (omega (arith, c.in_ok-expr.ensures.after)) c.in_ok-expr.ensures.settles r1 in
    rw (p.1, p.2) (fails (width_family c.args.depth) c.args.tokens.now c.args.at c.args.at (optional (is_at kind.Colon) (low_family c.args.depth)) _ c.in_ok-expr.after_expr c.in_ok-expr.after_expr c.in_err-low.field-0.0 (omega (arith, c.in_ok-expr.ensures.after)) c.in_err-low.ensures r2)

pub returns-in_err-right_bracket : goal.returns-in_err-right_bracket
returns-in_err-right_bracket c =
    let p = err_from_is_err_and c.from_residual-in_err-right_bracket.result c.from_residual-in_err-right_bracket.ensures.1 in
    let r1 = mark_step (width_family c.args.depth) c.args.tokens.now c.args.at c.args.at kind.LeftBracket (counted c.args.depth 0) _ c.args.at (c.args.at + 1) c.in_ok-left_bracket.left_bracket (omega arith) c.in_ok-left_bracket.ensures.reads.0 (begin (width_family c.args.depth) c.args.tokens.now c.args.at c.args.at) in
    let r2 = step (width_family c.args.depth) c.args.tokens.now c.args.at c.args.at (outermost_family c.args.depth) _ (c.args.at + 1) (c.args.at + 1) c.in_ok-expr.after_expr (view_expr c.in_ok-expr.expr) (omega arith) (omega (arith, c.in_ok-expr.ensures.after)) c.in_ok-expr.ensures.settles r1 in
    let r3 = step (width_family c.args.depth) c.args.tokens.now c.args.at c.args.at (optional (is_at kind.Colon) (low_family c.args.depth)) _ c.in_ok-expr.after_expr c.in_ok-expr.after_expr c.in_ok-low.after_low (option_map view_low c.in_ok-low.low) (omega (arith, c.in_ok-expr.ensures.after)) (omega (arith, c.in_ok-low.ensures.after)) c.in_ok-low.ensures.settles r2 in
    rw (p.1, p.2) (mark_fails (width_family c.args.depth) c.args.tokens.now c.args.at c.args.at kind.RightBracket (counted c.args.depth 0) _ c.in_ok-low.after_low c.in_err-right_bracket.field-0.0 c.in_ok-low.ensures.inside c.in_err-right_bracket.ensures.reads r3)

pub returns : goal.returns
returns c =
    let r1 = mark_step (width_family c.args.depth) c.args.tokens.now c.args.at c.args.at kind.LeftBracket (counted c.args.depth 0) _ c.args.at (c.args.at + 1) c.in_ok-left_bracket.left_bracket (omega arith) c.in_ok-left_bracket.ensures.reads.0 (begin (width_family c.args.depth) c.args.tokens.now c.args.at c.args.at) in
    let r2 = step (width_family c.args.depth) c.args.tokens.now c.args.at c.args.at (outermost_family c.args.depth) _ (c.args.at + 1) (c.args.at + 1) c.in_ok-expr.after_expr (view_expr c.in_ok-expr.expr) (omega arith) (omega (arith, c.in_ok-expr.ensures.after)) c.in_ok-expr.ensures.settles r1 in
    let r3 = step (width_family c.args.depth) c.args.tokens.now c.args.at c.args.at (optional (is_at kind.Colon) (low_family c.args.depth)) _ c.in_ok-expr.after_expr c.in_ok-expr.after_expr c.in_ok-low.after_low (option_map view_low c.in_ok-low.low) (omega (arith, c.in_ok-expr.ensures.after)) (omega (arith, c.in_ok-low.ensures.after)) c.in_ok-low.ensures.settles r2 in
    let r4 = mark_step (width_family c.args.depth) c.args.tokens.now c.args.at c.args.at kind.RightBracket (counted c.args.depth 0) _ c.in_ok-low.after_low (c.in_ok-low.after_low + 1) c.in_ok-right_bracket.right_bracket (omega arith) c.in_ok-right_bracket.ensures.reads.0 r3 in
    record { settles = ends (width_family c.args.depth) c.args.tokens.now c.args.at c.args.at _ (c.in_ok-low.after_low + 1) r4; after = omega (arith, c.in_ok-expr.ensures.after, c.in_ok-low.ensures.after); inside = (omega (arith, c.in_ok-right_bracket.ensures.reads.1)) }
