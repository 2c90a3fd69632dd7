use Rattle.pst_ast.specs.Limits.{counted}
use Rattle.pst_parse_part.proofs.names.type_name.Goals as goal
use Rattle.pst_parse_part.specs.Choices.{optional}
use Rattle.pst_parse_part.specs.Families.{scoped_name_family, type_name_family}
use Rattle.pst_parse_expr.specs.Constraints.{is_at}
use Rattle.pst_reading.proofs.Reaching.{begin, step, name_step, ends, fails}
use Rattle.pst_token.specs.declared.kind.Kind.TheVariants as kind
use Rattle.std.proofs.Common.{arith, ◌+◌}
use Rattle.std.proofs.lemmas.Result.{err_from_is_err_and}

pub returns-in_err-second : goal.returns-in_err-second
returns-in_err-second c =
    let p = err_from_is_err_and c.from_residual-in_err-second.result c.from_residual-in_err-second.ensures.1 in
    let r1 = name_step (type_name_family c.args.depth) c.args.tokens.now c.args.at c.args.at (counted c.args.depth 0) _ c.args.at (c.args.at + 1) c.in_ok-first.first (omega arith) c.in_ok-first.ensures.reads.0 (begin (type_name_family c.args.depth) c.args.tokens.now c.args.at c.args.at) in
    rw (p.1, p.2) (fails (type_name_family c.args.depth) c.args.tokens.now c.args.at c.args.at (optional (is_at kind.ColonColon) (scoped_name_family c.args.depth)) _ (c.args.at + 1) (c.args.at + 1) c.in_err-second.field-0.0 (omega arith) c.in_err-second.ensures r1)

pub returns : goal.returns
returns c =
    let r1 = name_step (type_name_family c.args.depth) c.args.tokens.now c.args.at c.args.at (counted c.args.depth 0) _ c.args.at (c.args.at + 1) c.in_ok-first.first (omega arith) c.in_ok-first.ensures.reads.0 (begin (type_name_family c.args.depth) c.args.tokens.now c.args.at c.args.at) in
    let r2 = step (type_name_family c.args.depth) c.args.tokens.now c.args.at c.args.at (optional (is_at kind.ColonColon) (scoped_name_family c.args.depth)) _ (c.args.at + 1) (c.args.at + 1) c.in_ok-second.after_second c.in_ok-second.second (omega arith) (omega (arith, c.in_ok-second.ensures.after)) c.in_ok-second.ensures.settles r1 in
    record { settles = ends (type_name_family c.args.depth) c.args.tokens.now c.args.at c.args.at _ c.in_ok-second.after_second r2; after = omega (arith, c.in_ok-second.ensures.after); inside = c.in_ok-second.ensures.inside }
