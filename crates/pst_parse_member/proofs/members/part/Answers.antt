use Rattle.pst_ast.specs.Limits.{counted}
use Rattle.pst_parse_member.proofs.Views.{part_seen}
use Rattle.pst_parse_member.proofs.members.part.Goals as goal
use Rattle.pst_parse_member.specs.Families.{part_family, array_size_family}
use Rattle.pst_parse_operator.specs.Families.{view_index_option}
use Rattle.pst_reading.proofs.Reaching.{begin, step, name_step, ends, fails}
use Rattle.std.proofs.Common.{arith, ◌+◌}
use Rattle.std.proofs.lemmas.Result.{err_from_is_err_and}

pub returns-in_err-index : goal.returns-in_err-index
returns-in_err-index c =
    let p = err_from_is_err_and c.from_residual-in_err-index.result c.from_residual-in_err-index.ensures.1 in
    let r1 = name_step (part_family c.args.depth) c.args.tokens.now c.args.at c.args.at (counted c.args.depth 0) _ c.args.at (c.args.at + 1) c.in_ok-name.name (omega arith) c.in_ok-name.ensures.reads.0 (begin (part_family c.args.depth) c.args.tokens.now c.args.at c.args.at) in
    rw (p.1, p.2) (fails (part_family c.args.depth) c.args.tokens.now c.args.at c.args.at (array_size_family c.args.depth) _ (c.args.at + 1) (c.args.at + 1) c.in_err-index.field-0.0 (omega arith) c.in_err-index.ensures r1)

pub returns : goal.returns
returns c =
    let r1 = name_step (part_family c.args.depth) c.args.tokens.now c.args.at c.args.at (counted c.args.depth 0) _ c.args.at (c.args.at + 1) c.in_ok-name.name (omega arith) c.in_ok-name.ensures.reads.0 (begin (part_family c.args.depth) c.args.tokens.now c.args.at c.args.at) in
    let r2 = step (part_family c.args.depth) c.args.tokens.now c.args.at c.args.at (array_size_family c.args.depth) _ (c.args.at + 1) (c.args.at + 1) c.in_ok-index.after_index (view_index_option c.in_ok-index.index) (omega arith) (omega (arith, c.in_ok-index.ensures.after)) c.in_ok-index.ensures.settles r1 in
    record { settles = rw part_seen (ends (part_family c.args.depth) c.args.tokens.now c.args.at c.args.at _ c.in_ok-index.after_index r2); after = omega (arith, c.in_ok-index.ensures.after); inside = c.in_ok-index.ensures.inside }
