use Rattle.std.proofs.Common.{rules}
use Rattle.std.proofs.lemmas.Result.{err_from_is_err_and}
use Rattle.pst_parse_expr.proofs.SharedRules.{outermost_settles, outermost_fails}
use Rattle.pst_parse_expr.proofs.TooDeep.{begun_deep, not_begun}
use Rattle.pst_parse_expr.proofs.shared.outermost.Goals as goal

pub returns-in_err-expr : goal.returns-in_err-expr
returns-in_err-expr c =
    let p = err_from_is_err_and c.from_residual.result c.from_residual.ensures.1 in
    rw (p.1, p.2) (outermost_fails c.args.tokens.now c.args.at c.args.depth c.in_err-expr.field-0.0 c.in_err-expr.ensures)

pub returns-then-not-is_over : goal.returns-then-not-is_over
returns-then-not-is_over c = record {
  settles = outermost_settles c.args.tokens.now c.args.at c.args.depth _ c.in_ok-expr.ensures.settles;
  after = c.in_ok-expr.ensures.after;
  inside = c.in_ok-expr.ensures.inside;
}

pub returns-then-begins_expr : goal.returns-then-begins_expr
returns-then-begins_expr c = begun_deep c.args.tokens.now c.args.at c.args.depth (search rules) c.requires.inside (search rules)

pub returns : goal.returns
returns c = not_begun c.args.tokens.now c.args.at c.args.depth (search rules) c.requires.inside (search rules)
