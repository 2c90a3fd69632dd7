use Rattle.pst_ast.specs.ExpressionView.{view_range, view_next_range}
use Rattle.pst_parse_part.proofs.RangesView.{ranges_seen}
use Rattle.pst_parse_part.proofs.ranges.ranges.Goals as goal
use Rattle.pst_parse_part.specs.Families.{ranges_family, range_family, next_range_family}
use Rattle.pst_parse_expr.specs.Constraints.{is_at}
use Rattle.pst_reading.proofs.Reaching.{begin, step, ends, fails}
use Rattle.pst_reading.specs.Lists.{listed}
use Rattle.pst_token.specs.declared.kind.Kind.TheVariants as kind
use Rattle.std.proofs.Common.{arith, ◌-◌, map}
use Rattle.std.proofs.lemmas.Result.{err_from_is_err_and}

pub returns-in_err-head : goal.returns-in_err-head
returns-in_err-head c =
    let p = err_from_is_err_and c.from_residual.result c.from_residual.ensures.1 in
    rw (p.1, p.2) (fails (ranges_family c.args.depth) c.args.tokens.now c.args.at c.args.at (range_family c.args.depth) _ c.args.at c.args.at c.in_err-head.field-0.0 (omega arith) c.in_err-head.ensures (begin (ranges_family c.args.depth) c.args.tokens.now c.args.at c.args.at))

pub returns-in_err-rest : goal.returns-in_err-rest
returns-in_err-rest c =
    let p = err_from_is_err_and c.from_residual-in_err-rest.result c.from_residual-in_err-rest.ensures.1 in
    let r1 = step (ranges_family c.args.depth) c.args.tokens.now c.args.at c.args.at (range_family c.args.depth) _ c.args.at c.args.at c.in_ok-head.after_head (view_range c.in_ok-head.head) (omega arith) (omega (arith, c.in_ok-head.ensures.after)) c.in_ok-head.ensures.settles (begin (ranges_family c.args.depth) c.args.tokens.now c.args.at c.args.at) in
    rw (p.1, p.2) (fails (ranges_family c.args.depth) c.args.tokens.now c.args.at c.args.at (listed (is_at kind.Comma) (next_range_family c.args.depth)) _ (c.in_ok-head.after_head - 1) c.in_ok-head.after_head c.in_err-rest.field-0.0 (omega (arith, c.in_ok-head.ensures.after)) c.in_err-rest.ensures r1)

pub returns : goal.returns
returns c =
    let r1 = step (ranges_family c.args.depth) c.args.tokens.now c.args.at c.args.at (range_family c.args.depth) _ c.args.at c.args.at c.in_ok-head.after_head (view_range c.in_ok-head.head) (omega arith) (omega (arith, c.in_ok-head.ensures.after)) c.in_ok-head.ensures.settles (begin (ranges_family c.args.depth) c.args.tokens.now c.args.at c.args.at) in
    let r2 = step (ranges_family c.args.depth) c.args.tokens.now c.args.at c.args.at (listed (is_at kind.Comma) (next_range_family c.args.depth)) _ (c.in_ok-head.after_head - 1) c.in_ok-head.after_head c.in_ok-rest.after_rest (map view_next_range c.in_ok-rest.rest.items) (omega (arith, c.in_ok-head.ensures.after)) (omega (arith, c.in_ok-rest.ensures.after)) c.in_ok-rest.ensures.settles r1 in
    record { settles = rw (ranges_seen, c.in_ok-first.ensures.ok) (ends (ranges_family c.args.depth) c.args.tokens.now c.args.at c.args.at _ c.in_ok-rest.after_rest r2); after = omega (arith, c.in_ok-head.ensures.after, c.in_ok-rest.ensures.after); inside = c.in_ok-rest.ensures.inside }
