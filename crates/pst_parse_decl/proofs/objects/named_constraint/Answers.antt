use Rattle.pst_reading.specs.Parser.{mark_by}
use Rattle.pst_parse_member.proofs.Kept.{token_fault, token_read}
use Rattle.pst_ast.specs.ConstraintView.{view_constraint_item}
use Rattle.pst_ast.specs.Limits.{counted}
use Rattle.pst_parse_decl.proofs.objects.named_constraint.Goals as goal
use Rattle.pst_parse_decl.specs.Families.{named_family}
use Rattle.pst_parse_expr.specs.ConstraintFamilies.{items_family}
use Rattle.pst_reading.proofs.Reaching.{begin, step, mark_step, name_step, ends, fails, mark_fails}
use Rattle.pst_token.specs.declared.kind.Kind.TheVariants as kind
use Rattle.std.proofs.Common.{arith, ◌+◌, ◌-◌, map}
use Rattle.std.proofs.lemmas.Result.{err_from_is_err_and}

pub returns-in_err-listed : goal.returns-in_err-listed
returns-in_err-listed c =
    let p = err_from_is_err_and c.from_residual-in_err-listed.result c.from_residual-in_err-listed.ensures.1 in
    let r1 = name_step (named_family (c.args.depth + 1) c.args.depth) c.args.tokens.now c.args.at c.args.at (counted (c.args.depth + 1) 0) _ c.args.at (c.args.at + 1) c.in_ok-name.name (omega arith) c.in_ok-name.ensures.reads.0 (begin (named_family (c.args.depth + 1) c.args.depth) c.args.tokens.now c.args.at c.args.at) in
    let r2 = mark_step (named_family (c.args.depth + 1) c.args.depth) c.args.tokens.now c.args.at c.args.at kind.LeftBrace (counted c.args.depth 0) _ (c.args.at + 1) (c.args.at + 2) c.in_ok-left_brace.left_brace (omega arith) c.in_ok-left_brace.ensures.reads.0 r1 in
    rw (p.1, p.2) (fails (named_family (c.args.depth + 1) c.args.depth) c.args.tokens.now c.args.at c.args.at (items_family (c.args.depth + 1)) _ (c.args.at + 2 - 1) (c.args.at + 2) c.in_err-listed.field-0.0 (omega arith) c.in_err-listed.ensures r2)

pub returns-in_err-items : goal.returns-in_err-items
returns-in_err-items c =
    let p = err_from_is_err_and c.from_residual-in_err-items.result c.from_residual-in_err-items.ensures.1 in
    let r1 = name_step (named_family (c.args.depth + 1) c.args.depth) c.args.tokens.now c.args.at c.args.at (counted (c.args.depth + 1) 0) _ c.args.at (c.args.at + 1) c.in_ok-name.name (omega arith) c.in_ok-name.ensures.reads.0 (begin (named_family (c.args.depth + 1) c.args.depth) c.args.tokens.now c.args.at c.args.at) in
    let r2 = mark_step (named_family (c.args.depth + 1) c.args.depth) c.args.tokens.now c.args.at c.args.at kind.LeftBrace (counted c.args.depth 0) _ (c.args.at + 1) (c.args.at + 2) c.in_ok-left_brace.left_brace (omega arith) c.in_ok-left_brace.ensures.reads.0 r1 in
    let r3 = step (named_family (c.args.depth + 1) c.args.depth) c.args.tokens.now c.args.at c.args.at (items_family (c.args.depth + 1)) _ (c.args.at + 2 - 1) (c.args.at + 2) c.in_ok-listed.after_items (map view_constraint_item c.in_ok-listed.listed.items) (omega arith) (omega (arith, c.in_ok-listed.ensures.after)) c.in_ok-listed.ensures.settles r2 in
    rw (p.1, p.2) (mark_fails (named_family (c.args.depth + 1) c.args.depth) c.args.tokens.now c.args.at c.args.at kind.RightBrace (counted c.args.depth 0) _ c.in_ok-listed.after_items c.in_err-items.field-0.0 c.in_ok-listed.ensures.inside (token_fault (mark_by kind.RightBrace (counted c.args.depth 0)) c.args.tokens.now c.in_ok-listed.after_items _ _ c.in_err-items.ensures.err c.expect-closing.ensures.reads) r3)

pub returns : goal.returns
returns c =
    let closing = token_read (mark_by kind.RightBrace (counted c.args.depth 0)) c.args.tokens.now c.in_ok-listed.after_items _ _ c.in_ok-items.ensures.ok.1 c.expect-closing.ensures.reads in
    let r1 = name_step (named_family (c.args.depth + 1) c.args.depth) c.args.tokens.now c.args.at c.args.at (counted (c.args.depth + 1) 0) _ c.args.at (c.args.at + 1) c.in_ok-name.name (omega arith) c.in_ok-name.ensures.reads.0 (begin (named_family (c.args.depth + 1) c.args.depth) c.args.tokens.now c.args.at c.args.at) in
    let r2 = mark_step (named_family (c.args.depth + 1) c.args.depth) c.args.tokens.now c.args.at c.args.at kind.LeftBrace (counted c.args.depth 0) _ (c.args.at + 1) (c.args.at + 2) c.in_ok-left_brace.left_brace (omega arith) c.in_ok-left_brace.ensures.reads.0 r1 in
    let r3 = step (named_family (c.args.depth + 1) c.args.depth) c.args.tokens.now c.args.at c.args.at (items_family (c.args.depth + 1)) _ (c.args.at + 2 - 1) (c.args.at + 2) c.in_ok-listed.after_items (map view_constraint_item c.in_ok-listed.listed.items) (omega arith) (omega (arith, c.in_ok-listed.ensures.after)) c.in_ok-listed.ensures.settles r2 in
    let r4 = mark_step (named_family (c.args.depth + 1) c.args.depth) c.args.tokens.now c.args.at c.args.at kind.RightBrace (counted c.args.depth 0) _ c.in_ok-listed.after_items (c.in_ok-listed.after_items + 1) c.in_ok-items.right_brace (omega arith) closing.0 r3 in
    record { settles = rw c.in_ok-items.ensures.ok.0 (ends (named_family (c.args.depth + 1) c.args.depth) c.args.tokens.now c.args.at c.args.at _ (c.in_ok-listed.after_items + 1) r4); after = omega (arith, c.in_ok-listed.ensures.after); inside = (omega (arith, closing.1)) }
