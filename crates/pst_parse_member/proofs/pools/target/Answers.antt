use Rattle.pst_ast.specs.Limits.{counted}
use Rattle.pst_parse_member.proofs.pools.target.Goals as goal
use Rattle.pst_parse_member.specs.Families.{target_family}
use Rattle.pst_parse_expr.specs.ConstraintFamilies.{dot_name_family}
use Rattle.pst_parse_expr.specs.Constraints.{is_at}
use Rattle.pst_reading.proofs.Reaching.{begin, step, name_step, ends, fails}
use Rattle.pst_reading.specs.Lists.{listed}
use Rattle.pst_token.specs.declared.kind.Kind.TheVariants as kind
use Rattle.std.proofs.Common.{arith, ◌+◌, ◌-◌}
use Rattle.std.proofs.lemmas.Result.{err_from_is_err_and}

pub returns-in_err-second : goal.returns-in_err-second
returns-in_err-second c =
    let p = err_from_is_err_and c.from_residual-in_err-second.result c.from_residual-in_err-second.ensures.1 in
    let r1 = name_step (target_family c.args.depth) c.args.tokens.now c.args.at c.args.at (counted c.args.depth 0) _ c.args.at (c.args.at + 1) c.in_ok-first.first (omega arith) c.in_ok-first.ensures.reads.0 (begin (target_family c.args.depth) c.args.tokens.now c.args.at c.args.at) in
    rw (p.1, p.2) (fails (target_family c.args.depth) c.args.tokens.now c.args.at c.args.at (dot_name_family c.args.depth) _ (c.args.at + 1) (c.args.at + 1) c.in_err-second.field-0.0 (omega arith) c.in_err-second.ensures r1)

pub returns-in_err-rest : goal.returns-in_err-rest
returns-in_err-rest c =
    let p = err_from_is_err_and c.from_residual-in_err-rest.result c.from_residual-in_err-rest.ensures.1 in
    let r1 = name_step (target_family c.args.depth) c.args.tokens.now c.args.at c.args.at (counted c.args.depth 0) _ c.args.at (c.args.at + 1) c.in_ok-first.first (omega arith) c.in_ok-first.ensures.reads.0 (begin (target_family c.args.depth) c.args.tokens.now c.args.at c.args.at) in
    let r2 = step (target_family c.args.depth) c.args.tokens.now c.args.at c.args.at (dot_name_family c.args.depth) _ (c.args.at + 1) (c.args.at + 1) c.in_ok-second.after_second c.in_ok-second.second (omega arith) (omega (arith, c.in_ok-second.ensures.after)) c.in_ok-second.ensures.settles r1 in
    rw (p.1, p.2) (fails (target_family c.args.depth) c.args.tokens.now c.args.at c.args.at (listed (is_at kind.Dot) (dot_name_family c.args.depth)) _ (c.in_ok-second.after_second - 1) c.in_ok-second.after_second c.in_err-rest.field-0.0 (omega (arith, c.in_ok-second.ensures.after)) c.in_err-rest.ensures r2)

pub returns : goal.returns
returns c =
    let r1 = name_step (target_family c.args.depth) c.args.tokens.now c.args.at c.args.at (counted c.args.depth 0) _ c.args.at (c.args.at + 1) c.in_ok-first.first (omega arith) c.in_ok-first.ensures.reads.0 (begin (target_family c.args.depth) c.args.tokens.now c.args.at c.args.at) in
    let r2 = step (target_family c.args.depth) c.args.tokens.now c.args.at c.args.at (dot_name_family c.args.depth) _ (c.args.at + 1) (c.args.at + 1) c.in_ok-second.after_second c.in_ok-second.second (omega arith) (omega (arith, c.in_ok-second.ensures.after)) c.in_ok-second.ensures.settles r1 in
    let r3 = step (target_family c.args.depth) c.args.tokens.now c.args.at c.args.at (listed (is_at kind.Dot) (dot_name_family c.args.depth)) _ (c.in_ok-second.after_second - 1) c.in_ok-second.after_second c.in_ok-rest.after_rest (c.in_ok-rest.rest.items) (omega (arith, c.in_ok-second.ensures.after)) (omega (arith, c.in_ok-rest.ensures.after)) c.in_ok-rest.ensures.settles r2 in
    record { settles = ends (target_family c.args.depth) c.args.tokens.now c.args.at c.args.at _ c.in_ok-rest.after_rest r3; after = omega (arith, c.in_ok-second.ensures.after, c.in_ok-rest.ensures.after); inside = c.in_ok-rest.ensures.inside }
