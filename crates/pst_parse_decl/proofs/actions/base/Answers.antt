use Rattle.pst_ast.specs.Limits.{counted}
use Rattle.pst_parse_decl.proofs.actions.base.Goals as goal
use Rattle.pst_parse_decl.specs.Families.{base_family}
use Rattle.pst_parse_part.specs.Families.{type_name_family}
use Rattle.pst_reading.proofs.Reaching.{begin, step, mark_step, ends, fails}
use Rattle.pst_token.specs.declared.kind.Kind.TheVariants as kind
use Rattle.std.proofs.Common.{arith, ◌+◌}
use Rattle.std.proofs.lemmas.Result.{err_from_is_err_and}

pub returns-in_err-name : goal.returns-in_err-name
returns-in_err-name c =
    let p = err_from_is_err_and c.from_residual-in_err-name.result c.from_residual-in_err-name.ensures.1 in
    let r1 = mark_step (base_family c.args.depth) c.args.tokens.now c.args.at c.args.at kind.Colon (counted c.args.depth 0) _ c.args.at (c.args.at + 1) c.in_ok-colon.colon (omega arith) c.in_ok-colon.ensures.reads.0 (begin (base_family c.args.depth) c.args.tokens.now c.args.at c.args.at) in
    rw (p.1, p.2) (fails (base_family c.args.depth) c.args.tokens.now c.args.at c.args.at (type_name_family c.args.depth) _ (c.args.at + 1) (c.args.at + 1) c.in_err-name.field-0.0 (omega arith) c.in_err-name.ensures r1)

pub returns : goal.returns
returns c =
    let r1 = mark_step (base_family c.args.depth) c.args.tokens.now c.args.at c.args.at kind.Colon (counted c.args.depth 0) _ c.args.at (c.args.at + 1) c.in_ok-colon.colon (omega arith) c.in_ok-colon.ensures.reads.0 (begin (base_family c.args.depth) c.args.tokens.now c.args.at c.args.at) in
    let r2 = step (base_family c.args.depth) c.args.tokens.now c.args.at c.args.at (type_name_family c.args.depth) _ (c.args.at + 1) (c.args.at + 1) c.in_ok-name.after_name c.in_ok-name.name (omega arith) (omega (arith, c.in_ok-name.ensures.after)) c.in_ok-name.ensures.settles r1 in
    record { settles = ends (base_family c.args.depth) c.args.tokens.now c.args.at c.args.at _ c.in_ok-name.after_name r2; after = omega (arith, c.in_ok-name.ensures.after); inside = c.in_ok-name.ensures.inside }
