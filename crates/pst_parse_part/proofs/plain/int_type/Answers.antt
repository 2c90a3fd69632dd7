use Rattle.pst_ast.specs.Limits.{counted}
use Rattle.pst_ast.specs.SharedView.{view_width}
use Rattle.pst_parse_part.proofs.plain.int_type.Goals as goal
use Rattle.pst_parse_part.specs.Choices.{optional}
use Rattle.pst_parse_part.specs.Families.{width_family, int_family}
use Rattle.pst_parse_expr.specs.Constraints.{is_at}
use Rattle.pst_reading.proofs.Reaching.{begin, step, mark_step, ends, fails}
use Rattle.pst_token.specs.declared.kind.Kind.TheVariants as kind
use Rattle.std.proofs.Common.{arith, ◌+◌}
use Rattle.std.proofs.lemmas.Result.{err_from_is_err_and}
use Rattle.std.specs.Option.{option_map}

pub returns-in_err-width : goal.returns-in_err-width
returns-in_err-width c =
    let p = err_from_is_err_and c.from_residual-in_err-width.result c.from_residual-in_err-width.ensures.1 in
    let r1 = mark_step (int_family c.args.depth) c.args.tokens.now c.args.at c.args.at kind.Int (counted c.args.depth 0) _ c.args.at (c.args.at + 1) c.in_ok-int.int (omega arith) c.in_ok-int.ensures.reads.0 (begin (int_family c.args.depth) c.args.tokens.now c.args.at c.args.at) in
    rw (p.1, p.2) (fails (int_family c.args.depth) c.args.tokens.now c.args.at c.args.at (optional (is_at kind.LeftBracket) (width_family c.args.depth)) _ (c.args.at + 1) (c.args.at + 1) c.in_err-width.field-0.0 (omega arith) c.in_err-width.ensures r1)

pub returns : goal.returns
returns c =
    let r1 = mark_step (int_family c.args.depth) c.args.tokens.now c.args.at c.args.at kind.Int (counted c.args.depth 0) _ c.args.at (c.args.at + 1) c.in_ok-int.int (omega arith) c.in_ok-int.ensures.reads.0 (begin (int_family c.args.depth) c.args.tokens.now c.args.at c.args.at) in
    let r2 = step (int_family c.args.depth) c.args.tokens.now c.args.at c.args.at (optional (is_at kind.LeftBracket) (width_family c.args.depth)) _ (c.args.at + 1) (c.args.at + 1) c.in_ok-width.after_width (option_map view_width c.in_ok-width.width) (omega arith) (omega (arith, c.in_ok-width.ensures.after)) c.in_ok-width.ensures.settles r1 in
    record { settles = ends (int_family c.args.depth) c.args.tokens.now c.args.at c.args.at _ c.in_ok-width.after_width r2; after = omega (arith, c.in_ok-width.ensures.after); inside = c.in_ok-width.ensures.inside }
