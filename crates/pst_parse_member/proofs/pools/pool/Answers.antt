use Rattle.pst_ast.specs.DeclarationView.{view_size}
use Rattle.pst_ast.specs.Limits.{counted}
use Rattle.pst_parse_member.proofs.pools.pool.Goals as goal
use Rattle.pst_parse_part.specs.Choices.{optional}
use Rattle.pst_parse_member.specs.Families.{size_family, pool_family}
use Rattle.pst_parse_part.specs.Families.{type_name_family}
use Rattle.pst_parse_expr.specs.Constraints.{is_at}
use Rattle.pst_reading.proofs.Reaching.{begin, step, mark_step, name_step, ends, fails, mark_fails, name_fails}
use Rattle.pst_token.specs.declared.kind.Kind.TheVariants as kind
use Rattle.std.proofs.Common.{arith, ◌+◌}
use Rattle.std.proofs.lemmas.Result.{err_from_is_err_and}
use Rattle.std.specs.Option.{option_map}

pub returns-in_err-size : goal.returns-in_err-size
returns-in_err-size c =
    let p = err_from_is_err_and c.from_residual-in_err-size.result c.from_residual-in_err-size.ensures.1 in
    let r1 = mark_step (pool_family c.args.depth) c.args.tokens.now c.args.at c.args.at kind.Pool (counted c.args.depth 0) _ c.args.at (c.args.at + 1) c.in_ok-pool.pool (omega arith) c.in_ok-pool.ensures.reads.0 (begin (pool_family c.args.depth) c.args.tokens.now c.args.at c.args.at) in
    rw (p.1, p.2) (fails (pool_family c.args.depth) c.args.tokens.now c.args.at c.args.at (optional (is_at kind.LeftBracket) (size_family c.args.depth)) _ (c.args.at + 1) (c.args.at + 1) c.in_err-size.field-0.0 (omega arith) c.in_err-size.ensures r1)

pub returns-in_err-object : goal.returns-in_err-object
returns-in_err-object c =
    let p = err_from_is_err_and c.from_residual-in_err-object.result c.from_residual-in_err-object.ensures.1 in
    let r1 = mark_step (pool_family c.args.depth) c.args.tokens.now c.args.at c.args.at kind.Pool (counted c.args.depth 0) _ c.args.at (c.args.at + 1) c.in_ok-pool.pool (omega arith) c.in_ok-pool.ensures.reads.0 (begin (pool_family c.args.depth) c.args.tokens.now c.args.at c.args.at) in
    let r2 = step (pool_family c.args.depth) c.args.tokens.now c.args.at c.args.at (optional (is_at kind.LeftBracket) (size_family c.args.depth)) _ (c.args.at + 1) (c.args.at + 1) c.in_ok-size.after_size (option_map view_size c.in_ok-size.size) (omega arith) (omega (arith, c.in_ok-size.ensures.after)) c.in_ok-size.ensures.settles r1 in
    rw (p.1, p.2) (fails (pool_family c.args.depth) c.args.tokens.now c.args.at c.args.at (type_name_family c.args.depth) _ c.in_ok-size.after_size c.in_ok-size.after_size c.in_err-object.field-0.0 (omega (arith, c.in_ok-size.ensures.after)) c.in_err-object.ensures r2)

pub returns-in_err-name : goal.returns-in_err-name
returns-in_err-name c =
    let p = err_from_is_err_and c.from_residual-in_err-name.result c.from_residual-in_err-name.ensures.1 in
    let r1 = mark_step (pool_family c.args.depth) c.args.tokens.now c.args.at c.args.at kind.Pool (counted c.args.depth 0) _ c.args.at (c.args.at + 1) c.in_ok-pool.pool (omega arith) c.in_ok-pool.ensures.reads.0 (begin (pool_family c.args.depth) c.args.tokens.now c.args.at c.args.at) in
    let r2 = step (pool_family c.args.depth) c.args.tokens.now c.args.at c.args.at (optional (is_at kind.LeftBracket) (size_family c.args.depth)) _ (c.args.at + 1) (c.args.at + 1) c.in_ok-size.after_size (option_map view_size c.in_ok-size.size) (omega arith) (omega (arith, c.in_ok-size.ensures.after)) c.in_ok-size.ensures.settles r1 in
    let r3 = step (pool_family c.args.depth) c.args.tokens.now c.args.at c.args.at (type_name_family c.args.depth) _ c.in_ok-size.after_size c.in_ok-size.after_size c.in_ok-object.after_object c.in_ok-object.object (omega (arith, c.in_ok-size.ensures.after)) (omega (arith, c.in_ok-object.ensures.after)) c.in_ok-object.ensures.settles r2 in
    rw (p.1, p.2) (name_fails (pool_family c.args.depth) c.args.tokens.now c.args.at c.args.at (counted c.args.depth 0) _ c.in_ok-object.after_object c.in_err-name.field-0.0 c.in_ok-object.ensures.inside c.in_err-name.ensures.reads r3)

pub returns-in_err-semicolon : goal.returns-in_err-semicolon
returns-in_err-semicolon c =
    let p = err_from_is_err_and c.from_residual-in_err-semicolon.result c.from_residual-in_err-semicolon.ensures.1 in
    let r1 = mark_step (pool_family c.args.depth) c.args.tokens.now c.args.at c.args.at kind.Pool (counted c.args.depth 0) _ c.args.at (c.args.at + 1) c.in_ok-pool.pool (omega arith) c.in_ok-pool.ensures.reads.0 (begin (pool_family c.args.depth) c.args.tokens.now c.args.at c.args.at) in
    let r2 = step (pool_family c.args.depth) c.args.tokens.now c.args.at c.args.at (optional (is_at kind.LeftBracket) (size_family c.args.depth)) _ (c.args.at + 1) (c.args.at + 1) c.in_ok-size.after_size (option_map view_size c.in_ok-size.size) (omega arith) (omega (arith, c.in_ok-size.ensures.after)) c.in_ok-size.ensures.settles r1 in
    let r3 = step (pool_family c.args.depth) c.args.tokens.now c.args.at c.args.at (type_name_family c.args.depth) _ c.in_ok-size.after_size c.in_ok-size.after_size c.in_ok-object.after_object c.in_ok-object.object (omega (arith, c.in_ok-size.ensures.after)) (omega (arith, c.in_ok-object.ensures.after)) c.in_ok-object.ensures.settles r2 in
    let r4 = name_step (pool_family c.args.depth) c.args.tokens.now c.args.at c.args.at (counted c.args.depth 0) _ c.in_ok-object.after_object (c.in_ok-object.after_object + 1) c.in_ok-name.name (omega arith) c.in_ok-name.ensures.reads.0 r3 in
    rw (p.1, p.2) (mark_fails (pool_family c.args.depth) c.args.tokens.now c.args.at c.args.at kind.Semicolon (counted c.args.depth 0) _ (c.in_ok-object.after_object + 1) c.in_err-semicolon.field-0.0 (omega (arith, c.in_ok-name.ensures.reads.1)) c.in_err-semicolon.ensures.reads r4)

pub returns : goal.returns
returns c =
    let r1 = mark_step (pool_family c.args.depth) c.args.tokens.now c.args.at c.args.at kind.Pool (counted c.args.depth 0) _ c.args.at (c.args.at + 1) c.in_ok-pool.pool (omega arith) c.in_ok-pool.ensures.reads.0 (begin (pool_family c.args.depth) c.args.tokens.now c.args.at c.args.at) in
    let r2 = step (pool_family c.args.depth) c.args.tokens.now c.args.at c.args.at (optional (is_at kind.LeftBracket) (size_family c.args.depth)) _ (c.args.at + 1) (c.args.at + 1) c.in_ok-size.after_size (option_map view_size c.in_ok-size.size) (omega arith) (omega (arith, c.in_ok-size.ensures.after)) c.in_ok-size.ensures.settles r1 in
    let r3 = step (pool_family c.args.depth) c.args.tokens.now c.args.at c.args.at (type_name_family c.args.depth) _ c.in_ok-size.after_size c.in_ok-size.after_size c.in_ok-object.after_object c.in_ok-object.object (omega (arith, c.in_ok-size.ensures.after)) (omega (arith, c.in_ok-object.ensures.after)) c.in_ok-object.ensures.settles r2 in
    let r4 = name_step (pool_family c.args.depth) c.args.tokens.now c.args.at c.args.at (counted c.args.depth 0) _ c.in_ok-object.after_object (c.in_ok-object.after_object + 1) c.in_ok-name.name (omega arith) c.in_ok-name.ensures.reads.0 r3 in
    let r5 = mark_step (pool_family c.args.depth) c.args.tokens.now c.args.at c.args.at kind.Semicolon (counted c.args.depth 0) _ (c.in_ok-object.after_object + 1) (c.in_ok-object.after_object + 2) c.in_ok-semicolon.semicolon (omega arith) c.in_ok-semicolon.ensures.reads.0 r4 in
    record { settles = ends (pool_family c.args.depth) c.args.tokens.now c.args.at c.args.at _ (c.in_ok-object.after_object + 2) r5; after = omega (arith, c.in_ok-size.ensures.after, c.in_ok-object.ensures.after); inside = (omega (arith, c.in_ok-semicolon.ensures.reads.1)) }
