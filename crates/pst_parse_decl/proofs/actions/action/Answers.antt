use Rattle.pst_reading.specs.Parser.{mark_by}
use Rattle.pst_parse_member.proofs.Kept.{token_fault, token_read}
use Rattle.pst_ast.specs.DeclarationView.{view_action_part}
use Rattle.pst_ast.specs.Limits.{counted}
use Rattle.pst_parse_decl.proofs.actions.action.Goals as goal
use Rattle.pst_parse_part.specs.Choices.{optional}
use Rattle.pst_parse_decl.specs.Families.{action_family, action_part_family, base_family}
use Rattle.pst_parse_part.specs.Families.{mark_family}
use Rattle.pst_parse_decl.specs.Inner.{activity_parser, body_parser}
use Rattle.pst_parse_expr.specs.Constraints.{is_at, is_other}
use Rattle.pst_reading.proofs.Reaching.{begin, step, mark_step, name_step, ends, fails, mark_fails, name_fails}
use Rattle.pst_reading.specs.Lists.{listed}
use Rattle.pst_token.specs.declared.kind.Kind.TheVariants as kind
use Rattle.std.proofs.Common.{arith, ◌+◌, ◌-◌, map}
use Rattle.std.proofs.lemmas.Result.{err_from_is_err_and}

pub returns-in_err-abstract_ : goal.returns-in_err-abstract_
returns-in_err-abstract_ c =
    let p = err_from_is_err_and c.from_residual.result c.from_residual.ensures.1 in
    rw (p.1, p.2) (fails (action_family activity_parser body_parser 1) c.args.tokens.now c.args.at c.args.at (optional (is_at kind.Abstract) (mark_family kind.Abstract 2)) _ c.args.at c.args.at c.in_err-abstract_.field-0.0 (omega arith) c.in_err-abstract_.ensures (begin (action_family activity_parser body_parser 1) c.args.tokens.now c.args.at c.args.at))

pub returns-in_err-action : goal.returns-in_err-action
returns-in_err-action c =
    let p = err_from_is_err_and c.from_residual-in_err-action.result c.from_residual-in_err-action.ensures.1 in
    let r1 = step (action_family activity_parser body_parser 1) c.args.tokens.now c.args.at c.args.at (optional (is_at kind.Abstract) (mark_family kind.Abstract 2)) _ c.args.at c.args.at c.in_ok-abstract_.after_abstract c.in_ok-abstract_.abstract_ (omega arith) (omega (arith, c.in_ok-abstract_.ensures.after)) c.in_ok-abstract_.ensures.settles (begin (action_family activity_parser body_parser 1) c.args.tokens.now c.args.at c.args.at) in
    rw (p.1, p.2) (mark_fails (action_family activity_parser body_parser 1) c.args.tokens.now c.args.at c.args.at kind.Action (counted 2 0) _ c.in_ok-abstract_.after_abstract c.in_err-action.field-0.0 c.in_ok-abstract_.ensures.inside c.in_err-action.ensures.reads r1)

pub returns-in_err-name : goal.returns-in_err-name
returns-in_err-name c =
    let p = err_from_is_err_and c.from_residual-in_err-name.result c.from_residual-in_err-name.ensures.1 in
    let r1 = step (action_family activity_parser body_parser 1) c.args.tokens.now c.args.at c.args.at (optional (is_at kind.Abstract) (mark_family kind.Abstract 2)) _ c.args.at c.args.at c.in_ok-abstract_.after_abstract c.in_ok-abstract_.abstract_ (omega arith) (omega (arith, c.in_ok-abstract_.ensures.after)) c.in_ok-abstract_.ensures.settles (begin (action_family activity_parser body_parser 1) c.args.tokens.now c.args.at c.args.at) in
    let r2 = mark_step (action_family activity_parser body_parser 1) c.args.tokens.now c.args.at c.args.at kind.Action (counted 2 0) _ c.in_ok-abstract_.after_abstract (c.in_ok-abstract_.after_abstract + 1) c.in_ok-action.action (omega arith) c.in_ok-action.ensures.reads.0 r1 in
    rw (p.1, p.2) (name_fails (action_family activity_parser body_parser 1) c.args.tokens.now c.args.at c.args.at (counted 2 0) _ (c.in_ok-abstract_.after_abstract + 1) c.in_err-name.field-0.0 (omega (arith, c.in_ok-action.ensures.reads.1)) c.in_err-name.ensures.reads r2)

pub returns-in_err-base : goal.returns-in_err-base
returns-in_err-base c =
    let p = err_from_is_err_and c.from_residual-in_err-base.result c.from_residual-in_err-base.ensures.1 in
    let r1 = step (action_family activity_parser body_parser 1) c.args.tokens.now c.args.at c.args.at (optional (is_at kind.Abstract) (mark_family kind.Abstract 2)) _ c.args.at c.args.at c.in_ok-abstract_.after_abstract c.in_ok-abstract_.abstract_ (omega arith) (omega (arith, c.in_ok-abstract_.ensures.after)) c.in_ok-abstract_.ensures.settles (begin (action_family activity_parser body_parser 1) c.args.tokens.now c.args.at c.args.at) in
    let r2 = mark_step (action_family activity_parser body_parser 1) c.args.tokens.now c.args.at c.args.at kind.Action (counted 2 0) _ c.in_ok-abstract_.after_abstract (c.in_ok-abstract_.after_abstract + 1) c.in_ok-action.action (omega arith) c.in_ok-action.ensures.reads.0 r1 in
    let r3 = name_step (action_family activity_parser body_parser 1) c.args.tokens.now c.args.at c.args.at (counted 2 0) _ (c.in_ok-abstract_.after_abstract + 1) (c.in_ok-abstract_.after_abstract + 2) c.in_ok-name.name (omega arith) c.in_ok-name.ensures.reads.0 r2 in
    rw (p.1, p.2) (fails (action_family activity_parser body_parser 1) c.args.tokens.now c.args.at c.args.at (optional (is_at kind.Colon) (base_family 2)) _ (c.in_ok-abstract_.after_abstract + 2) (c.in_ok-abstract_.after_abstract + 2) c.in_err-base.field-0.0 (omega (arith, c.in_ok-abstract_.ensures.after)) c.in_err-base.ensures r3)

pub returns-in_err-left_brace : goal.returns-in_err-left_brace
returns-in_err-left_brace c =
    let p = err_from_is_err_and c.from_residual-in_err-left_brace.result c.from_residual-in_err-left_brace.ensures.1 in
    let r1 = step (action_family activity_parser body_parser 1) c.args.tokens.now c.args.at c.args.at (optional (is_at kind.Abstract) (mark_family kind.Abstract 2)) _ c.args.at c.args.at c.in_ok-abstract_.after_abstract c.in_ok-abstract_.abstract_ (omega arith) (omega (arith, c.in_ok-abstract_.ensures.after)) c.in_ok-abstract_.ensures.settles (begin (action_family activity_parser body_parser 1) c.args.tokens.now c.args.at c.args.at) in
    let r2 = mark_step (action_family activity_parser body_parser 1) c.args.tokens.now c.args.at c.args.at kind.Action (counted 2 0) _ c.in_ok-abstract_.after_abstract (c.in_ok-abstract_.after_abstract + 1) c.in_ok-action.action (omega arith) c.in_ok-action.ensures.reads.0 r1 in
    let r3 = name_step (action_family activity_parser body_parser 1) c.args.tokens.now c.args.at c.args.at (counted 2 0) _ (c.in_ok-abstract_.after_abstract + 1) (c.in_ok-abstract_.after_abstract + 2) c.in_ok-name.name (omega arith) c.in_ok-name.ensures.reads.0 r2 in
    let r4 = step (action_family activity_parser body_parser 1) c.args.tokens.now c.args.at c.args.at (optional (is_at kind.Colon) (base_family 2)) _ (c.in_ok-abstract_.after_abstract + 2) (c.in_ok-abstract_.after_abstract + 2) c.in_ok-base.after_base c.in_ok-base.base (omega (arith, c.in_ok-abstract_.ensures.after)) (omega (arith, c.in_ok-base.ensures.after)) c.in_ok-base.ensures.settles r3 in
    rw (p.1, p.2) (mark_fails (action_family activity_parser body_parser 1) c.args.tokens.now c.args.at c.args.at kind.LeftBrace (counted 2 0) _ c.in_ok-base.after_base c.in_err-left_brace.field-0.0 c.in_ok-base.ensures.inside c.in_err-left_brace.ensures.reads r4)

pub returns-in_err-listed : goal.returns-in_err-listed
returns-in_err-listed c =
    let p = err_from_is_err_and c.from_residual-in_err-listed.result c.from_residual-in_err-listed.ensures.1 in
    let r1 = step (action_family activity_parser body_parser 1) c.args.tokens.now c.args.at c.args.at (optional (is_at kind.Abstract) (mark_family kind.Abstract 2)) _ c.args.at c.args.at c.in_ok-abstract_.after_abstract c.in_ok-abstract_.abstract_ (omega arith) (omega (arith, c.in_ok-abstract_.ensures.after)) c.in_ok-abstract_.ensures.settles (begin (action_family activity_parser body_parser 1) c.args.tokens.now c.args.at c.args.at) in
    let r2 = mark_step (action_family activity_parser body_parser 1) c.args.tokens.now c.args.at c.args.at kind.Action (counted 2 0) _ c.in_ok-abstract_.after_abstract (c.in_ok-abstract_.after_abstract + 1) c.in_ok-action.action (omega arith) c.in_ok-action.ensures.reads.0 r1 in
    let r3 = name_step (action_family activity_parser body_parser 1) c.args.tokens.now c.args.at c.args.at (counted 2 0) _ (c.in_ok-abstract_.after_abstract + 1) (c.in_ok-abstract_.after_abstract + 2) c.in_ok-name.name (omega arith) c.in_ok-name.ensures.reads.0 r2 in
    let r4 = step (action_family activity_parser body_parser 1) c.args.tokens.now c.args.at c.args.at (optional (is_at kind.Colon) (base_family 2)) _ (c.in_ok-abstract_.after_abstract + 2) (c.in_ok-abstract_.after_abstract + 2) c.in_ok-base.after_base c.in_ok-base.base (omega (arith, c.in_ok-abstract_.ensures.after)) (omega (arith, c.in_ok-base.ensures.after)) c.in_ok-base.ensures.settles r3 in
    let r5 = mark_step (action_family activity_parser body_parser 1) c.args.tokens.now c.args.at c.args.at kind.LeftBrace (counted 2 0) _ c.in_ok-base.after_base (c.in_ok-base.after_base + 1) c.in_ok-left_brace.left_brace (omega arith) c.in_ok-left_brace.ensures.reads.0 r4 in
    rw (p.1, p.2) (fails (action_family activity_parser body_parser 1) c.args.tokens.now c.args.at c.args.at (listed (is_other kind.RightBrace) (action_part_family activity_parser body_parser 2)) _ (c.in_ok-base.after_base + 1 - 1) (c.in_ok-base.after_base + 1) c.in_err-listed.field-0.0 (omega (arith, c.in_ok-abstract_.ensures.after, c.in_ok-base.ensures.after)) c.in_err-listed.ensures r5)

pub returns-in_err-parts : goal.returns-in_err-parts
returns-in_err-parts c =
    let p = err_from_is_err_and c.from_residual-in_err-parts.result c.from_residual-in_err-parts.ensures.1 in
    let r1 = step (action_family activity_parser body_parser 1) c.args.tokens.now c.args.at c.args.at (optional (is_at kind.Abstract) (mark_family kind.Abstract 2)) _ c.args.at c.args.at c.in_ok-abstract_.after_abstract c.in_ok-abstract_.abstract_ (omega arith) (omega (arith, c.in_ok-abstract_.ensures.after)) c.in_ok-abstract_.ensures.settles (begin (action_family activity_parser body_parser 1) c.args.tokens.now c.args.at c.args.at) in
    let r2 = mark_step (action_family activity_parser body_parser 1) c.args.tokens.now c.args.at c.args.at kind.Action (counted 2 0) _ c.in_ok-abstract_.after_abstract (c.in_ok-abstract_.after_abstract + 1) c.in_ok-action.action (omega arith) c.in_ok-action.ensures.reads.0 r1 in
    let r3 = name_step (action_family activity_parser body_parser 1) c.args.tokens.now c.args.at c.args.at (counted 2 0) _ (c.in_ok-abstract_.after_abstract + 1) (c.in_ok-abstract_.after_abstract + 2) c.in_ok-name.name (omega arith) c.in_ok-name.ensures.reads.0 r2 in
    let r4 = step (action_family activity_parser body_parser 1) c.args.tokens.now c.args.at c.args.at (optional (is_at kind.Colon) (base_family 2)) _ (c.in_ok-abstract_.after_abstract + 2) (c.in_ok-abstract_.after_abstract + 2) c.in_ok-base.after_base c.in_ok-base.base (omega (arith, c.in_ok-abstract_.ensures.after)) (omega (arith, c.in_ok-base.ensures.after)) c.in_ok-base.ensures.settles r3 in
    let r5 = mark_step (action_family activity_parser body_parser 1) c.args.tokens.now c.args.at c.args.at kind.LeftBrace (counted 2 0) _ c.in_ok-base.after_base (c.in_ok-base.after_base + 1) c.in_ok-left_brace.left_brace (omega arith) c.in_ok-left_brace.ensures.reads.0 r4 in
    let r6 = step (action_family activity_parser body_parser 1) c.args.tokens.now c.args.at c.args.at (listed (is_other kind.RightBrace) (action_part_family activity_parser body_parser 2)) _ (c.in_ok-base.after_base + 1 - 1) (c.in_ok-base.after_base + 1) c.in_ok-listed.after_parts (map view_action_part c.in_ok-listed.listed.items) (omega (arith, c.in_ok-abstract_.ensures.after, c.in_ok-base.ensures.after)) (omega (arith, c.in_ok-listed.ensures.after)) c.in_ok-listed.ensures.settles r5 in
    rw (p.1, p.2) (mark_fails (action_family activity_parser body_parser 1) c.args.tokens.now c.args.at c.args.at kind.RightBrace (counted 2 0) _ c.in_ok-listed.after_parts c.in_err-parts.field-0.0 c.in_ok-listed.ensures.inside (token_fault (mark_by kind.RightBrace (counted 2 0)) c.args.tokens.now c.in_ok-listed.after_parts _ _ c.in_err-parts.ensures.err c.expect-closing.ensures.reads) r6)

pub returns : goal.returns
returns c =
    let closing = token_read (mark_by kind.RightBrace (counted 2 0)) c.args.tokens.now c.in_ok-listed.after_parts _ _ c.in_ok-parts.ensures.ok.1 c.expect-closing.ensures.reads in
    let r1 = step (action_family activity_parser body_parser 1) c.args.tokens.now c.args.at c.args.at (optional (is_at kind.Abstract) (mark_family kind.Abstract 2)) _ c.args.at c.args.at c.in_ok-abstract_.after_abstract c.in_ok-abstract_.abstract_ (omega arith) (omega (arith, c.in_ok-abstract_.ensures.after)) c.in_ok-abstract_.ensures.settles (begin (action_family activity_parser body_parser 1) c.args.tokens.now c.args.at c.args.at) in
    let r2 = mark_step (action_family activity_parser body_parser 1) c.args.tokens.now c.args.at c.args.at kind.Action (counted 2 0) _ c.in_ok-abstract_.after_abstract (c.in_ok-abstract_.after_abstract + 1) c.in_ok-action.action (omega arith) c.in_ok-action.ensures.reads.0 r1 in
    let r3 = name_step (action_family activity_parser body_parser 1) c.args.tokens.now c.args.at c.args.at (counted 2 0) _ (c.in_ok-abstract_.after_abstract + 1) (c.in_ok-abstract_.after_abstract + 2) c.in_ok-name.name (omega arith) c.in_ok-name.ensures.reads.0 r2 in
    let r4 = step (action_family activity_parser body_parser 1) c.args.tokens.now c.args.at c.args.at (optional (is_at kind.Colon) (base_family 2)) _ (c.in_ok-abstract_.after_abstract + 2) (c.in_ok-abstract_.after_abstract + 2) c.in_ok-base.after_base c.in_ok-base.base (omega (arith, c.in_ok-abstract_.ensures.after)) (omega (arith, c.in_ok-base.ensures.after)) c.in_ok-base.ensures.settles r3 in
    let r5 = mark_step (action_family activity_parser body_parser 1) c.args.tokens.now c.args.at c.args.at kind.LeftBrace (counted 2 0) _ c.in_ok-base.after_base (c.in_ok-base.after_base + 1) c.in_ok-left_brace.left_brace (omega arith) c.in_ok-left_brace.ensures.reads.0 r4 in
    let r6 = step (action_family activity_parser body_parser 1) c.args.tokens.now c.args.at c.args.at (listed (is_other kind.RightBrace) (action_part_family activity_parser body_parser 2)) _ (c.in_ok-base.after_base + 1 - 1) (c.in_ok-base.after_base + 1) c.in_ok-listed.after_parts (map view_action_part c.in_ok-listed.listed.items) (omega (arith, c.in_ok-abstract_.ensures.after, c.in_ok-base.ensures.after)) (omega (arith, c.in_ok-listed.ensures.after)) c.in_ok-listed.ensures.settles r5 in
    let r7 = mark_step (action_family activity_parser body_parser 1) c.args.tokens.now c.args.at c.args.at kind.RightBrace (counted 2 0) _ c.in_ok-listed.after_parts (c.in_ok-listed.after_parts + 1) c.in_ok-parts.right_brace (omega arith) closing.0 r6 in
    record { settles = rw c.in_ok-parts.ensures.ok.0 (ends (action_family activity_parser body_parser 1) c.args.tokens.now c.args.at c.args.at _ (c.in_ok-listed.after_parts + 1) r7); after = omega (arith, c.in_ok-abstract_.ensures.after, c.in_ok-base.ensures.after, c.in_ok-listed.ensures.after); inside = (omega (arith, closing.1)) }
