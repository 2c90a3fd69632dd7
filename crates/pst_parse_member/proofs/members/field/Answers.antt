use Rattle.pst_ast.specs.DeclarationView.{view_next_field}
use Rattle.pst_ast.specs.ExpressionView.{view_part}
use Rattle.pst_ast.specs.Limits.{counted}
use Rattle.pst_ast.specs.SharedView.{view_type}
use Rattle.pst_parse_member.proofs.Kept.{part_fault, part_read, token_fault, token_read, first_kept, second_kept}
use Rattle.pst_parse_member.proofs.members.field.Goals as goal
use Rattle.pst_parse_member.specs.Families.{part_family, type_family, field_family, next_field_family}
use Rattle.pst_parse_part.specs.Families.{view_list}
use Rattle.pst_parse_expr.specs.Constraints.{is_at}
use Rattle.pst_reading.proofs.Reaching.{begin, step, mark_step, ends, fails, mark_fails}
use Rattle.pst_reading.specs.Lists.{listed}
use Rattle.pst_reading.specs.Parser.{mark_by}
use Rattle.pst_token.specs.declared.kind.Kind.TheVariants as kind
use Rattle.std.proofs.Common.{◌∙◌, arith, ◌+◌, ◌-◌, map}
use Rattle.std.proofs.lemmas.Result.{err_from_is_err_and}

pub returns-in_err-typed : goal.returns-in_err-typed
returns-in_err-typed c =
    let p = err_from_is_err_and c.from_residual-in_err-typed.result c.from_residual-in_err-typed.ensures.1 in
    let r1 = mark_step (field_family c.args.depth) c.args.tokens.now c.args.at c.args.at kind.Rand (counted c.args.depth 0) _ c.args.at (c.args.at + 1) c.in_ok-rand.rand (omega arith) c.in_ok-rand.ensures.reads.0 (begin (field_family c.args.depth) c.args.tokens.now c.args.at c.args.at) in
    rw (p.1, p.2) (fails (field_family c.args.depth) c.args.tokens.now c.args.at c.args.at (type_family c.args.depth) _ (c.args.at + 1) (c.args.at + 1) c.in_err-typed.field-0.0 (omega arith) c.in_err-typed.ensures r1)

pub returns-in_err-front : goal.returns-in_err-front
returns-in_err-front c =
    let p = err_from_is_err_and c.from_residual-in_err-front.result c.from_residual-in_err-front.ensures.1 in
    let r1 = mark_step (field_family c.args.depth) c.args.tokens.now c.args.at c.args.at kind.Rand (counted c.args.depth 0) _ c.args.at (c.args.at + 1) c.in_ok-rand.rand (omega arith) c.in_ok-rand.ensures.reads.0 (begin (field_family c.args.depth) c.args.tokens.now c.args.at c.args.at) in
    let r2 = step (field_family c.args.depth) c.args.tokens.now c.args.at c.args.at (type_family c.args.depth) _ (c.args.at + 1) (c.args.at + 1) c.in_ok-typed.after_type (view_type c.in_ok-typed.typed) (omega arith) (omega (arith, c.in_ok-typed.ensures.after)) c.in_ok-typed.ensures.settles r1 in
    rw (p.1, p.2) (fails (field_family c.args.depth) c.args.tokens.now c.args.at c.args.at (part_family c.args.depth) _ c.in_ok-typed.after_type c.in_ok-typed.after_type c.in_err-front.field-0.0 (omega (arith, c.in_ok-typed.ensures.after)) (part_fault view_part (part_family c.args.depth) c.args.tokens.now c.in_ok-typed.after_type c.in_ok-typed.after_type 1 _ _ c.in_err-front.ensures.err c.part-name.ensures) r2)

pub returns-in_err-names : goal.returns-in_err-names
returns-in_err-names c =
    let name = part_read view_part (part_family c.args.depth) c.args.tokens.now c.in_ok-typed.after_type c.in_ok-typed.after_type 1 _ _ c.in_ok-front.ensures.ok.1 c.part-name.ensures in
    let p = err_from_is_err_and c.from_residual-in_err-names.result c.from_residual-in_err-names.ensures.1 in
    let r1 = mark_step (field_family c.args.depth) c.args.tokens.now c.args.at c.args.at kind.Rand (counted c.args.depth 0) _ c.args.at (c.args.at + 1) c.in_ok-rand.rand (omega arith) c.in_ok-rand.ensures.reads.0 (begin (field_family c.args.depth) c.args.tokens.now c.args.at c.args.at) in
    let r2 = step (field_family c.args.depth) c.args.tokens.now c.args.at c.args.at (type_family c.args.depth) _ (c.args.at + 1) (c.args.at + 1) c.in_ok-typed.after_type (view_type c.in_ok-typed.typed) (omega arith) (omega (arith, c.in_ok-typed.ensures.after)) c.in_ok-typed.ensures.settles r1 in
    let r3 = step (field_family c.args.depth) c.args.tokens.now c.args.at c.args.at (part_family c.args.depth) _ c.in_ok-typed.after_type c.in_ok-typed.after_type c.in_ok-front.after_first (view_part c.in_ok-front.head) (omega (arith, c.in_ok-typed.ensures.after)) (omega (arith, name.after)) name.settles r2 in
    rw (p.1, p.2) (fails (field_family c.args.depth) c.args.tokens.now c.args.at c.args.at (listed (is_at kind.Comma) (next_field_family c.args.depth)) _ (c.in_ok-front.after_first - 1) c.in_ok-front.after_first c.in_err-names.field-0.0 (omega (arith, c.in_ok-typed.ensures.after, name.after)) (part_fault (view_list view_next_field) (listed (is_at kind.Comma) (next_field_family c.args.depth)) c.args.tokens.now (c.in_ok-front.after_first - 1) c.in_ok-front.after_first 0 _ _ c.in_err-names.ensures.err c.next_fields-others.ensures) r3)

pub returns-in_err-field_type : goal.returns-in_err-field_type
returns-in_err-field_type c =
    let name = part_read view_part (part_family c.args.depth) c.args.tokens.now c.in_ok-typed.after_type c.in_ok-typed.after_type 1 _ _ c.in_ok-front.ensures.ok.1 c.part-name.ensures in
    let others = part_read (view_list view_next_field) (listed (is_at kind.Comma) (next_field_family c.args.depth)) c.args.tokens.now (c.in_ok-front.after_first - 1) c.in_ok-front.after_first 0 _ _ c.in_ok-names.ensures.ok.1 c.next_fields-others.ensures in
    let p = err_from_is_err_and c.from_residual-in_err-field_type.result c.from_residual-in_err-field_type.ensures.1 in
    let r1 = mark_step (field_family c.args.depth) c.args.tokens.now c.args.at c.args.at kind.Rand (counted c.args.depth 0) _ c.args.at (c.args.at + 1) c.in_ok-rand.rand (omega arith) c.in_ok-rand.ensures.reads.0 (begin (field_family c.args.depth) c.args.tokens.now c.args.at c.args.at) in
    let r2 = step (field_family c.args.depth) c.args.tokens.now c.args.at c.args.at (type_family c.args.depth) _ (c.args.at + 1) (c.args.at + 1) c.in_ok-typed.after_type (view_type c.in_ok-typed.typed) (omega arith) (omega (arith, c.in_ok-typed.ensures.after)) c.in_ok-typed.ensures.settles r1 in
    let r3 = step (field_family c.args.depth) c.args.tokens.now c.args.at c.args.at (part_family c.args.depth) _ c.in_ok-typed.after_type c.in_ok-typed.after_type c.in_ok-front.after_first (view_part c.in_ok-front.head) (omega (arith, c.in_ok-typed.ensures.after)) (omega (arith, name.after)) name.settles r2 in
    let r4 = step (field_family c.args.depth) c.args.tokens.now c.args.at c.args.at (listed (is_at kind.Comma) (next_field_family c.args.depth)) _ (c.in_ok-front.after_first - 1) c.in_ok-front.after_first c.in_ok-names.after_rest (map view_next_field c.in_ok-names.listed.items) (omega (arith, c.in_ok-typed.ensures.after, name.after)) (omega (arith, others.after)) others.settles r3 in
    rw (p.1, p.2) (mark_fails (field_family c.args.depth) c.args.tokens.now c.args.at c.args.at kind.Semicolon (counted c.args.depth 0) _ c.in_ok-names.after_rest c.in_err-field_type.field-0.0 others.inside (token_fault (mark_by kind.Semicolon (counted c.args.depth 0)) c.args.tokens.now c.in_ok-names.after_rest _ _ c.in_err-field_type.ensures.err c.expect-last.ensures.reads) r4)

pub returns : goal.returns
returns c =
    let name = part_read view_part (part_family c.args.depth) c.args.tokens.now c.in_ok-typed.after_type c.in_ok-typed.after_type 1 _ _ c.in_ok-front.ensures.ok.1 c.part-name.ensures in
    let others = part_read (view_list view_next_field) (listed (is_at kind.Comma) (next_field_family c.args.depth)) c.args.tokens.now (c.in_ok-front.after_first - 1) c.in_ok-front.after_first 0 _ _ c.in_ok-names.ensures.ok.1 c.next_fields-others.ensures in
    let last = token_read (mark_by kind.Semicolon (counted c.args.depth 0)) c.args.tokens.now c.in_ok-names.after_rest _ _ c.in_ok-field_type.ensures.ok.1 c.expect-last.ensures.reads in
    let inner = first_kept _ _ c.in_ok-field_type.ensures.ok.0 ∙ c.in_ok-names.ensures.ok.0 in
    let typed = first_kept _ _ inner ∙ c.in_ok-front.ensures.ok.0 in
    let head = second_kept _ _ inner in
    let listed_fields = second_kept _ _ c.in_ok-field_type.ensures.ok.0 in
    let r1 = mark_step (field_family c.args.depth) c.args.tokens.now c.args.at c.args.at kind.Rand (counted c.args.depth 0) _ c.args.at (c.args.at + 1) c.in_ok-rand.rand (omega arith) c.in_ok-rand.ensures.reads.0 (begin (field_family c.args.depth) c.args.tokens.now c.args.at c.args.at) in
    let r2 = step (field_family c.args.depth) c.args.tokens.now c.args.at c.args.at (type_family c.args.depth) _ (c.args.at + 1) (c.args.at + 1) c.in_ok-typed.after_type (view_type c.in_ok-typed.typed) (omega arith) (omega (arith, c.in_ok-typed.ensures.after)) c.in_ok-typed.ensures.settles r1 in
    let r3 = step (field_family c.args.depth) c.args.tokens.now c.args.at c.args.at (part_family c.args.depth) _ c.in_ok-typed.after_type c.in_ok-typed.after_type c.in_ok-front.after_first (view_part c.in_ok-front.head) (omega (arith, c.in_ok-typed.ensures.after)) (omega (arith, name.after)) name.settles r2 in
    let r4 = step (field_family c.args.depth) c.args.tokens.now c.args.at c.args.at (listed (is_at kind.Comma) (next_field_family c.args.depth)) _ (c.in_ok-front.after_first - 1) c.in_ok-front.after_first c.in_ok-names.after_rest (map view_next_field c.in_ok-names.listed.items) (omega (arith, c.in_ok-typed.ensures.after, name.after)) (omega (arith, others.after)) others.settles r3 in
    let r5 = mark_step (field_family c.args.depth) c.args.tokens.now c.args.at c.args.at kind.Semicolon (counted c.args.depth 0) _ c.in_ok-names.after_rest (c.in_ok-names.after_rest + 1) c.in_ok-field_type.semicolon (omega arith) last.0 r4 in
    record { settles = rw (typed, head, listed_fields) (ends (field_family c.args.depth) c.args.tokens.now c.args.at c.args.at _ (c.in_ok-names.after_rest + 1) r5); after = omega (arith, c.in_ok-typed.ensures.after, name.after, others.after); inside = (omega (arith, last.1)) }
