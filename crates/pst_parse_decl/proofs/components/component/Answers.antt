use Rattle.pst_reading.specs.Parser.{mark_by}
use Rattle.pst_parse_member.proofs.Kept.{token_fault, token_read}
use Rattle.pst_ast.specs.DeclarationView.{view_component_part}
use Rattle.pst_ast.specs.Limits.{counted}
use Rattle.pst_parse_decl.proofs.components.component.Goals as goal
use Rattle.pst_parse_decl.specs.Families.{component_part_family, component_family}
use Rattle.pst_parse_decl.specs.Inner.{activity_parser, body_parser}
use Rattle.pst_parse_expr.specs.Constraints.{is_other}
use Rattle.pst_reading.proofs.Reaching.{begin, step, mark_step, name_step, ends, fails, mark_fails}
use Rattle.pst_reading.specs.Lists.{listed}
use Rattle.pst_token.specs.declared.kind.Kind.TheVariants as kind
use Rattle.std.proofs.Common.{arith, ◌+◌, ◌-◌, map}
use Rattle.std.proofs.lemmas.Result.{err_from_is_err_and}

pub returns-in_err-listed : goal.returns-in_err-listed
returns-in_err-listed c =
    let p = err_from_is_err_and c.from_residual-in_err-listed.result c.from_residual-in_err-listed.ensures.1 in
    let r1 = mark_step (component_family activity_parser body_parser 0) c.args.tokens.now c.args.at c.args.at kind.Component (counted 1 0) _ c.args.at (c.args.at + 1) c.in_ok-component.component (omega arith) c.in_ok-component.ensures.reads.0 (begin (component_family activity_parser body_parser 0) c.args.tokens.now c.args.at c.args.at) in
    let r2 = name_step (component_family activity_parser body_parser 0) c.args.tokens.now c.args.at c.args.at (counted 1 0) _ (c.args.at + 1) (c.args.at + 2) c.in_ok-name.name (omega arith) c.in_ok-name.ensures.reads.0 r1 in
    let r3 = mark_step (component_family activity_parser body_parser 0) c.args.tokens.now c.args.at c.args.at kind.LeftBrace (counted 1 0) _ (c.args.at + 2) (c.args.at + 3) c.in_ok-left_brace.left_brace (omega arith) c.in_ok-left_brace.ensures.reads.0 r2 in
    rw (p.1, p.2) (fails (component_family activity_parser body_parser 0) c.args.tokens.now c.args.at c.args.at (listed (is_other kind.RightBrace) (component_part_family activity_parser body_parser 1)) _ (c.args.at + 3 - 1) (c.args.at + 3) c.in_err-listed.field-0.0 (omega arith) c.in_err-listed.ensures r3)

pub returns-in_err-parts : goal.returns-in_err-parts
returns-in_err-parts c =
    let p = err_from_is_err_and c.from_residual-in_err-parts.result c.from_residual-in_err-parts.ensures.1 in
    let r1 = mark_step (component_family activity_parser body_parser 0) c.args.tokens.now c.args.at c.args.at kind.Component (counted 1 0) _ c.args.at (c.args.at + 1) c.in_ok-component.component (omega arith) c.in_ok-component.ensures.reads.0 (begin (component_family activity_parser body_parser 0) c.args.tokens.now c.args.at c.args.at) in
    let r2 = name_step (component_family activity_parser body_parser 0) c.args.tokens.now c.args.at c.args.at (counted 1 0) _ (c.args.at + 1) (c.args.at + 2) c.in_ok-name.name (omega arith) c.in_ok-name.ensures.reads.0 r1 in
    let r3 = mark_step (component_family activity_parser body_parser 0) c.args.tokens.now c.args.at c.args.at kind.LeftBrace (counted 1 0) _ (c.args.at + 2) (c.args.at + 3) c.in_ok-left_brace.left_brace (omega arith) c.in_ok-left_brace.ensures.reads.0 r2 in
    let r4 = step (component_family activity_parser body_parser 0) c.args.tokens.now c.args.at c.args.at (listed (is_other kind.RightBrace) (component_part_family activity_parser body_parser 1)) _ (c.args.at + 3 - 1) (c.args.at + 3) c.in_ok-listed.after_parts (map view_component_part c.in_ok-listed.listed.items) (omega arith) (omega (arith, c.in_ok-listed.ensures.after)) c.in_ok-listed.ensures.settles r3 in
    rw (p.1, p.2) (mark_fails (component_family activity_parser body_parser 0) c.args.tokens.now c.args.at c.args.at kind.RightBrace (counted 1 0) _ c.in_ok-listed.after_parts c.in_err-parts.field-0.0 c.in_ok-listed.ensures.inside (token_fault (mark_by kind.RightBrace (counted 1 0)) c.args.tokens.now c.in_ok-listed.after_parts _ _ c.in_err-parts.ensures.err c.expect-closing.ensures.reads) r4)

pub returns : goal.returns
returns c =
    let closing = token_read (mark_by kind.RightBrace (counted 1 0)) c.args.tokens.now c.in_ok-listed.after_parts _ _ c.in_ok-parts.ensures.ok.1 c.expect-closing.ensures.reads in
    let r1 = mark_step (component_family activity_parser body_parser 0) c.args.tokens.now c.args.at c.args.at kind.Component (counted 1 0) _ c.args.at (c.args.at + 1) c.in_ok-component.component (omega arith) c.in_ok-component.ensures.reads.0 (begin (component_family activity_parser body_parser 0) c.args.tokens.now c.args.at c.args.at) in
    let r2 = name_step (component_family activity_parser body_parser 0) c.args.tokens.now c.args.at c.args.at (counted 1 0) _ (c.args.at + 1) (c.args.at + 2) c.in_ok-name.name (omega arith) c.in_ok-name.ensures.reads.0 r1 in
    let r3 = mark_step (component_family activity_parser body_parser 0) c.args.tokens.now c.args.at c.args.at kind.LeftBrace (counted 1 0) _ (c.args.at + 2) (c.args.at + 3) c.in_ok-left_brace.left_brace (omega arith) c.in_ok-left_brace.ensures.reads.0 r2 in
    let r4 = step (component_family activity_parser body_parser 0) c.args.tokens.now c.args.at c.args.at (listed (is_other kind.RightBrace) (component_part_family activity_parser body_parser 1)) _ (c.args.at + 3 - 1) (c.args.at + 3) c.in_ok-listed.after_parts (map view_component_part c.in_ok-listed.listed.items) (omega arith) (omega (arith, c.in_ok-listed.ensures.after)) c.in_ok-listed.ensures.settles r3 in
    let r5 = mark_step (component_family activity_parser body_parser 0) c.args.tokens.now c.args.at c.args.at kind.RightBrace (counted 1 0) _ c.in_ok-listed.after_parts (c.in_ok-listed.after_parts + 1) c.in_ok-parts.right_brace (omega arith) closing.0 r4 in
    record { settles = rw c.in_ok-parts.ensures.ok.0 (ends (component_family activity_parser body_parser 0) c.args.tokens.now c.args.at c.args.at _ (c.in_ok-listed.after_parts + 1) r5); after = omega (arith, c.in_ok-listed.ensures.after); inside = (omega (arith, closing.1)) }
