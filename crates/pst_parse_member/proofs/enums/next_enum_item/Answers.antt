use Rattle.pst_ast.specs.DeclarationView.{view_enum_item}
use Rattle.pst_ast.specs.Limits.{counted}
use Rattle.pst_parse_member.proofs.enums.next_enum_item.Goals as goal
use Rattle.pst_parse_member.specs.Families.{enum_item_family, next_enum_item_family}
use Rattle.pst_reading.proofs.Reaching.{begin, step, mark_step, ends, fails}
use Rattle.pst_token.specs.declared.kind.Kind.TheVariants as kind
use Rattle.std.proofs.Common.{arith, ◌+◌}
use Rattle.std.proofs.lemmas.Result.{err_from_is_err_and}

pub returns-in_err-item : goal.returns-in_err-item
returns-in_err-item c =
    let p = err_from_is_err_and c.from_residual-in_err-item.result c.from_residual-in_err-item.ensures.1 in
    let r1 = mark_step (next_enum_item_family c.args.depth) c.args.tokens.now c.args.at c.args.at kind.Comma (counted c.args.depth 0) _ c.args.at (c.args.at + 1) c.in_ok-comma.comma (omega arith) c.in_ok-comma.ensures.reads.0 (begin (next_enum_item_family c.args.depth) c.args.tokens.now c.args.at c.args.at) in
    rw (p.1, p.2) (fails (next_enum_item_family c.args.depth) c.args.tokens.now c.args.at c.args.at (enum_item_family c.args.depth) _ (c.args.at + 1) (c.args.at + 1) c.in_err-item.field-0.0 (omega arith) c.in_err-item.ensures r1)

pub returns : goal.returns
returns c =
    let r1 = mark_step (next_enum_item_family c.args.depth) c.args.tokens.now c.args.at c.args.at kind.Comma (counted c.args.depth 0) _ c.args.at (c.args.at + 1) c.in_ok-comma.comma (omega arith) c.in_ok-comma.ensures.reads.0 (begin (next_enum_item_family c.args.depth) c.args.tokens.now c.args.at c.args.at) in
    let r2 = step (next_enum_item_family c.args.depth) c.args.tokens.now c.args.at c.args.at (enum_item_family c.args.depth) _ (c.args.at + 1) (c.args.at + 1) c.in_ok-item.after_item (view_enum_item c.in_ok-item.item) (omega arith) (omega (arith, c.in_ok-item.ensures.after)) c.in_ok-item.ensures.settles r1 in
    record { settles = ends (next_enum_item_family c.args.depth) c.args.tokens.now c.args.at c.args.at _ c.in_ok-item.after_item r2; after = omega (arith, c.in_ok-item.ensures.after); inside = c.in_ok-item.ensures.inside }
