use Rattle.pst_ast.specs.DeclarationView.{view_target, view_next_target}
use Rattle.pst_ast.specs.Limits.{counted}
use Rattle.pst_parse_member.proofs.pools.several_targets.Goals as goal
use Rattle.pst_parse_member.specs.Families.{target_family, several_targets_family, next_target_family}
use Rattle.pst_parse_expr.specs.Constraints.{is_at}
use Rattle.pst_reading.proofs.Reaching.{begin, step, mark_step, ends, fails, mark_fails}
use Rattle.pst_reading.specs.Lists.{listed}
use Rattle.pst_token.specs.declared.kind.Kind.TheVariants as kind
use Rattle.std.proofs.Common.{arith, ◌+◌, ◌-◌, map}
use Rattle.std.proofs.lemmas.Result.{err_from_is_err_and}

pub returns-in_err-first : goal.returns-in_err-first
returns-in_err-first c =
    let p = err_from_is_err_and c.from_residual-in_err-first.result c.from_residual-in_err-first.ensures.1 in
    let r1 = mark_step (several_targets_family c.args.depth) c.args.tokens.now c.args.at c.args.at kind.LeftBrace (counted c.args.depth 0) _ c.args.at (c.args.at + 1) c.in_ok-left_brace.left_brace (omega arith) c.in_ok-left_brace.ensures.reads.0 (begin (several_targets_family c.args.depth) c.args.tokens.now c.args.at c.args.at) in
    rw (p.1, p.2) (fails (several_targets_family c.args.depth) c.args.tokens.now c.args.at c.args.at (target_family c.args.depth) _ (c.args.at + 1) (c.args.at + 1) c.in_err-first.field-0.0 (omega arith) c.in_err-first.ensures r1)

pub returns-in_err-rest : goal.returns-in_err-rest
returns-in_err-rest c =
    let p = err_from_is_err_and c.from_residual-in_err-rest.result c.from_residual-in_err-rest.ensures.1 in
    let r1 = mark_step (several_targets_family c.args.depth) c.args.tokens.now c.args.at c.args.at kind.LeftBrace (counted c.args.depth 0) _ c.args.at (c.args.at + 1) c.in_ok-left_brace.left_brace (omega arith) c.in_ok-left_brace.ensures.reads.0 (begin (several_targets_family c.args.depth) c.args.tokens.now c.args.at c.args.at) in
    let r2 = step (several_targets_family c.args.depth) c.args.tokens.now c.args.at c.args.at (target_family c.args.depth) _ (c.args.at + 1) (c.args.at + 1) c.in_ok-first.after_first (view_target c.in_ok-first.first) (omega arith) (omega (arith, c.in_ok-first.ensures.after)) c.in_ok-first.ensures.settles r1 in
    rw (p.1, p.2) (fails (several_targets_family c.args.depth) c.args.tokens.now c.args.at c.args.at (listed (is_at kind.Comma) (next_target_family c.args.depth)) _ (c.in_ok-first.after_first - 1) c.in_ok-first.after_first c.in_err-rest.field-0.0 (omega (arith, c.in_ok-first.ensures.after)) c.in_err-rest.ensures r2)

pub returns-in_err-right_brace : goal.returns-in_err-right_brace
returns-in_err-right_brace c =
    let p = err_from_is_err_and c.from_residual-in_err-right_brace.result c.from_residual-in_err-right_brace.ensures.1 in
    let r1 = mark_step (several_targets_family c.args.depth) c.args.tokens.now c.args.at c.args.at kind.LeftBrace (counted c.args.depth 0) _ c.args.at (c.args.at + 1) c.in_ok-left_brace.left_brace (omega arith) c.in_ok-left_brace.ensures.reads.0 (begin (several_targets_family c.args.depth) c.args.tokens.now c.args.at c.args.at) in
    let r2 = step (several_targets_family c.args.depth) c.args.tokens.now c.args.at c.args.at (target_family c.args.depth) _ (c.args.at + 1) (c.args.at + 1) c.in_ok-first.after_first (view_target c.in_ok-first.first) (omega arith) (omega (arith, c.in_ok-first.ensures.after)) c.in_ok-first.ensures.settles r1 in
    let r3 = step (several_targets_family c.args.depth) c.args.tokens.now c.args.at c.args.at (listed (is_at kind.Comma) (next_target_family c.args.depth)) _ (c.in_ok-first.after_first - 1) c.in_ok-first.after_first c.in_ok-rest.after_rest (map view_next_target c.in_ok-rest.rest.items) (omega (arith, c.in_ok-first.ensures.after)) (omega (arith, c.in_ok-rest.ensures.after)) c.in_ok-rest.ensures.settles r2 in
    rw (p.1, p.2) (mark_fails (several_targets_family c.args.depth) c.args.tokens.now c.args.at c.args.at kind.RightBrace (counted c.args.depth 0) _ c.in_ok-rest.after_rest c.in_err-right_brace.field-0.0 c.in_ok-rest.ensures.inside c.in_err-right_brace.ensures.reads r3)

pub returns : goal.returns
returns c =
    let r1 = mark_step (several_targets_family c.args.depth) c.args.tokens.now c.args.at c.args.at kind.LeftBrace (counted c.args.depth 0) _ c.args.at (c.args.at + 1) c.in_ok-left_brace.left_brace (omega arith) c.in_ok-left_brace.ensures.reads.0 (begin (several_targets_family c.args.depth) c.args.tokens.now c.args.at c.args.at) in
    let r2 = step (several_targets_family c.args.depth) c.args.tokens.now c.args.at c.args.at (target_family c.args.depth) _ (c.args.at + 1) (c.args.at + 1) c.in_ok-first.after_first (view_target c.in_ok-first.first) (omega arith) (omega (arith, c.in_ok-first.ensures.after)) c.in_ok-first.ensures.settles r1 in
    let r3 = step (several_targets_family c.args.depth) c.args.tokens.now c.args.at c.args.at (listed (is_at kind.Comma) (next_target_family c.args.depth)) _ (c.in_ok-first.after_first - 1) c.in_ok-first.after_first c.in_ok-rest.after_rest (map view_next_target c.in_ok-rest.rest.items) (omega (arith, c.in_ok-first.ensures.after)) (omega (arith, c.in_ok-rest.ensures.after)) c.in_ok-rest.ensures.settles r2 in
    let r4 = mark_step (several_targets_family c.args.depth) c.args.tokens.now c.args.at c.args.at kind.RightBrace (counted c.args.depth 0) _ c.in_ok-rest.after_rest (c.in_ok-rest.after_rest + 1) c.in_ok-right_brace.right_brace (omega arith) c.in_ok-right_brace.ensures.reads.0 r3 in
    record { settles = ends (several_targets_family c.args.depth) c.args.tokens.now c.args.at c.args.at _ (c.in_ok-rest.after_rest + 1) r4; after = omega (arith, c.in_ok-first.ensures.after, c.in_ok-rest.ensures.after); inside = (omega (arith, c.in_ok-right_brace.ensures.reads.1)) }
