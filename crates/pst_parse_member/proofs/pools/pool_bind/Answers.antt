use Rattle.pst_ast.specs.DeclarationView.{view_targets}
use Rattle.pst_ast.specs.Limits.{counted}
use Rattle.pst_parse_member.proofs.pools.pool_bind.Goals as goal
use Rattle.pst_parse_member.specs.Families.{pool_bind_family, targets_family}
use Rattle.pst_reading.proofs.Reaching.{begin, step, mark_step, name_step, ends, fails, mark_fails}
use Rattle.pst_token.specs.declared.kind.Kind.TheVariants as kind
use Rattle.std.proofs.Common.{arith, ◌+◌}
use Rattle.std.proofs.lemmas.Result.{err_from_is_err_and}

pub returns-in_err-targets : goal.returns-in_err-targets
returns-in_err-targets c =
    let p = err_from_is_err_and c.from_residual-in_err-targets.result c.from_residual-in_err-targets.ensures.1 in
    let r1 = mark_step (pool_bind_family c.args.depth) c.args.tokens.now c.args.at c.args.at kind.Bind (counted c.args.depth 0) _ c.args.at (c.args.at + 1) c.in_ok-bind.bind (omega arith) c.in_ok-bind.ensures.reads.0 (begin (pool_bind_family c.args.depth) c.args.tokens.now c.args.at c.args.at) in
    let r2 = name_step (pool_bind_family c.args.depth) c.args.tokens.now c.args.at c.args.at (counted c.args.depth 0) _ (c.args.at + 1) (c.args.at + 2) c.in_ok-pool.pool (omega arith) c.in_ok-pool.ensures.reads.0 r1 in
    rw (p.1, p.2) (fails (pool_bind_family c.args.depth) c.args.tokens.now c.args.at c.args.at (targets_family c.args.depth) _ (c.args.at + 2) (c.args.at + 2) c.in_err-targets.field-0.0 (omega arith) c.in_err-targets.ensures r2)

pub returns-in_err-semicolon : goal.returns-in_err-semicolon
returns-in_err-semicolon c =
    let p = err_from_is_err_and c.from_residual-in_err-semicolon.result c.from_residual-in_err-semicolon.ensures.1 in
    let r1 = mark_step (pool_bind_family c.args.depth) c.args.tokens.now c.args.at c.args.at kind.Bind (counted c.args.depth 0) _ c.args.at (c.args.at + 1) c.in_ok-bind.bind (omega arith) c.in_ok-bind.ensures.reads.0 (begin (pool_bind_family c.args.depth) c.args.tokens.now c.args.at c.args.at) in
    let r2 = name_step (pool_bind_family c.args.depth) c.args.tokens.now c.args.at c.args.at (counted c.args.depth 0) _ (c.args.at + 1) (c.args.at + 2) c.in_ok-pool.pool (omega arith) c.in_ok-pool.ensures.reads.0 r1 in
    let r3 = step (pool_bind_family c.args.depth) c.args.tokens.now c.args.at c.args.at (targets_family c.args.depth) _ (c.args.at + 2) (c.args.at + 2) c.in_ok-targets.after_targets (view_targets c.in_ok-targets.targets) (omega arith) (omega (arith, c.in_ok-targets.ensures.after)) c.in_ok-targets.ensures.settles r2 in
    rw (p.1, p.2) (mark_fails (pool_bind_family c.args.depth) c.args.tokens.now c.args.at c.args.at kind.Semicolon (counted c.args.depth 0) _ c.in_ok-targets.after_targets c.in_err-semicolon.field-0.0 c.in_ok-targets.ensures.inside c.in_err-semicolon.ensures.reads r3)

pub returns : goal.returns
returns c =
    let r1 = mark_step (pool_bind_family c.args.depth) c.args.tokens.now c.args.at c.args.at kind.Bind (counted c.args.depth 0) _ c.args.at (c.args.at + 1) c.in_ok-bind.bind (omega arith) c.in_ok-bind.ensures.reads.0 (begin (pool_bind_family c.args.depth) c.args.tokens.now c.args.at c.args.at) in
    let r2 = name_step (pool_bind_family c.args.depth) c.args.tokens.now c.args.at c.args.at (counted c.args.depth 0) _ (c.args.at + 1) (c.args.at + 2) c.in_ok-pool.pool (omega arith) c.in_ok-pool.ensures.reads.0 r1 in
    let r3 = step (pool_bind_family c.args.depth) c.args.tokens.now c.args.at c.args.at (targets_family c.args.depth) _ (c.args.at + 2) (c.args.at + 2) c.in_ok-targets.after_targets (view_targets c.in_ok-targets.targets) (omega arith) (omega (arith, c.in_ok-targets.ensures.after)) c.in_ok-targets.ensures.settles r2 in
    let r4 = mark_step (pool_bind_family c.args.depth) c.args.tokens.now c.args.at c.args.at kind.Semicolon (counted c.args.depth 0) _ c.in_ok-targets.after_targets (c.in_ok-targets.after_targets + 1) c.in_ok-semicolon.semicolon (omega arith) c.in_ok-semicolon.ensures.reads.0 r3 in
    record { settles = ends (pool_bind_family c.args.depth) c.args.tokens.now c.args.at c.args.at _ (c.in_ok-targets.after_targets + 1) r4; after = omega (arith, c.in_ok-targets.ensures.after); inside = (omega (arith, c.in_ok-semicolon.ensures.reads.1)) }
