use Rattle.pst_ast.specs.DeclarationView.{view_enum_item, view_next_enum_item}
use Rattle.pst_ast.specs.Limits.{counted}
use Rattle.pst_parse_member.proofs.enums.enum_.Goals as goal
use Rattle.pst_parse_member.specs.Families.{enum_item_family, enum_family, next_enum_item_family}
use Rattle.pst_parse_expr.specs.Constraints.{is_at}
use Rattle.pst_reading.proofs.Reaching.{begin, step, mark_step, name_step, ends, fails, mark_fails}
use Rattle.pst_reading.specs.Lists.{listed}
use Rattle.pst_token.specs.declared.kind.Kind.TheVariants as kind
use Rattle.std.proofs.Common.{arith, ◌+◌, ◌-◌, map}
use Rattle.std.proofs.lemmas.Result.{err_from_is_err_and}

pub returns-in_err-first : goal.returns-in_err-first
returns-in_err-first c =
    let p = err_from_is_err_and c.from_residual-in_err-first.result c.from_residual-in_err-first.ensures.1 in
    let r1 = mark_step (enum_family c.args.depth) c.args.tokens.now c.args.at c.args.at kind.Enum (counted c.args.depth 0) _ c.args.at (c.args.at + 1) c.in_ok-enum_.enum_ (omega arith) c.in_ok-enum_.ensures.reads.0 (begin (enum_family c.args.depth) c.args.tokens.now c.args.at c.args.at) in
    let r2 = name_step (enum_family c.args.depth) c.args.tokens.now c.args.at c.args.at (counted c.args.depth 0) _ (c.args.at + 1) (c.args.at + 2) c.in_ok-name.name (omega arith) c.in_ok-name.ensures.reads.0 r1 in
    let r3 = mark_step (enum_family c.args.depth) c.args.tokens.now c.args.at c.args.at kind.LeftBrace (counted c.args.depth 0) _ (c.args.at + 2) (c.args.at + 3) c.in_ok-left_brace.left_brace (omega arith) c.in_ok-left_brace.ensures.reads.0 r2 in
    rw (p.1, p.2) (fails (enum_family c.args.depth) c.args.tokens.now c.args.at c.args.at (enum_item_family c.args.depth) _ (c.args.at + 3) (c.args.at + 3) c.in_err-first.field-0.0 (omega arith) c.in_err-first.ensures r3)

pub returns-in_err-rest : goal.returns-in_err-rest
returns-in_err-rest c =
    let p = err_from_is_err_and c.from_residual-in_err-rest.result c.from_residual-in_err-rest.ensures.1 in
    let r1 = mark_step (enum_family c.args.depth) c.args.tokens.now c.args.at c.args.at kind.Enum (counted c.args.depth 0) _ c.args.at (c.args.at + 1) c.in_ok-enum_.enum_ (omega arith) c.in_ok-enum_.ensures.reads.0 (begin (enum_family c.args.depth) c.args.tokens.now c.args.at c.args.at) in
    let r2 = name_step (enum_family c.args.depth) c.args.tokens.now c.args.at c.args.at (counted c.args.depth 0) _ (c.args.at + 1) (c.args.at + 2) c.in_ok-name.name (omega arith) c.in_ok-name.ensures.reads.0 r1 in
    let r3 = mark_step (enum_family c.args.depth) c.args.tokens.now c.args.at c.args.at kind.LeftBrace (counted c.args.depth 0) _ (c.args.at + 2) (c.args.at + 3) c.in_ok-left_brace.left_brace (omega arith) c.in_ok-left_brace.ensures.reads.0 r2 in
    let r4 = step (enum_family c.args.depth) c.args.tokens.now c.args.at c.args.at (enum_item_family c.args.depth) _ (c.args.at + 3) (c.args.at + 3) c.in_ok-first.after_first (view_enum_item c.in_ok-first.first) (omega arith) (omega (arith, c.in_ok-first.ensures.after)) c.in_ok-first.ensures.settles r3 in
    rw (p.1, p.2) (fails (enum_family c.args.depth) c.args.tokens.now c.args.at c.args.at (listed (is_at kind.Comma) (next_enum_item_family c.args.depth)) _ (c.in_ok-first.after_first - 1) c.in_ok-first.after_first c.in_err-rest.field-0.0 (omega (arith, c.in_ok-first.ensures.after)) c.in_err-rest.ensures r4)

pub returns-in_err-right_brace : goal.returns-in_err-right_brace
returns-in_err-right_brace c =
    let p = err_from_is_err_and c.from_residual-in_err-right_brace.result c.from_residual-in_err-right_brace.ensures.1 in
    let r1 = mark_step (enum_family c.args.depth) c.args.tokens.now c.args.at c.args.at kind.Enum (counted c.args.depth 0) _ c.args.at (c.args.at + 1) c.in_ok-enum_.enum_ (omega arith) c.in_ok-enum_.ensures.reads.0 (begin (enum_family c.args.depth) c.args.tokens.now c.args.at c.args.at) in
    let r2 = name_step (enum_family c.args.depth) c.args.tokens.now c.args.at c.args.at (counted c.args.depth 0) _ (c.args.at + 1) (c.args.at + 2) c.in_ok-name.name (omega arith) c.in_ok-name.ensures.reads.0 r1 in
    let r3 = mark_step (enum_family c.args.depth) c.args.tokens.now c.args.at c.args.at kind.LeftBrace (counted c.args.depth 0) _ (c.args.at + 2) (c.args.at + 3) c.in_ok-left_brace.left_brace (omega arith) c.in_ok-left_brace.ensures.reads.0 r2 in
    let r4 = step (enum_family c.args.depth) c.args.tokens.now c.args.at c.args.at (enum_item_family c.args.depth) _ (c.args.at + 3) (c.args.at + 3) c.in_ok-first.after_first (view_enum_item c.in_ok-first.first) (omega arith) (omega (arith, c.in_ok-first.ensures.after)) c.in_ok-first.ensures.settles r3 in
    let r5 = step (enum_family c.args.depth) c.args.tokens.now c.args.at c.args.at (listed (is_at kind.Comma) (next_enum_item_family c.args.depth)) _ (c.in_ok-first.after_first - 1) c.in_ok-first.after_first c.in_ok-rest.after_rest (map view_next_enum_item c.in_ok-rest.rest.items) (omega (arith, c.in_ok-first.ensures.after)) (omega (arith, c.in_ok-rest.ensures.after)) c.in_ok-rest.ensures.settles r4 in
    rw (p.1, p.2) (mark_fails (enum_family c.args.depth) c.args.tokens.now c.args.at c.args.at kind.RightBrace (counted c.args.depth 0) _ c.in_ok-rest.after_rest c.in_err-right_brace.field-0.0 c.in_ok-rest.ensures.inside c.in_err-right_brace.ensures.reads r5)

pub returns : goal.returns
returns c =
    let r1 = mark_step (enum_family c.args.depth) c.args.tokens.now c.args.at c.args.at kind.Enum (counted c.args.depth 0) _ c.args.at (c.args.at + 1) c.in_ok-enum_.enum_ (omega arith) c.in_ok-enum_.ensures.reads.0 (begin (enum_family c.args.depth) c.args.tokens.now c.args.at c.args.at) in
    let r2 = name_step (enum_family c.args.depth) c.args.tokens.now c.args.at c.args.at (counted c.args.depth 0) _ (c.args.at + 1) (c.args.at + 2) c.in_ok-name.name (omega arith) c.in_ok-name.ensures.reads.0 r1 in
    let r3 = mark_step (enum_family c.args.depth) c.args.tokens.now c.args.at c.args.at kind.LeftBrace (counted c.args.depth 0) _ (c.args.at + 2) (c.args.at + 3) c.in_ok-left_brace.left_brace (omega arith) c.in_ok-left_brace.ensures.reads.0 r2 in
    let r4 = step (enum_family c.args.depth) c.args.tokens.now c.args.at c.args.at (enum_item_family c.args.depth) _ (c.args.at + 3) (c.args.at + 3) c.in_ok-first.after_first (view_enum_item c.in_ok-first.first) (omega arith) (omega (arith, c.in_ok-first.ensures.after)) c.in_ok-first.ensures.settles r3 in
    let r5 = step (enum_family c.args.depth) c.args.tokens.now c.args.at c.args.at (listed (is_at kind.Comma) (next_enum_item_family c.args.depth)) _ (c.in_ok-first.after_first - 1) c.in_ok-first.after_first c.in_ok-rest.after_rest (map view_next_enum_item c.in_ok-rest.rest.items) (omega (arith, c.in_ok-first.ensures.after)) (omega (arith, c.in_ok-rest.ensures.after)) c.in_ok-rest.ensures.settles r4 in
    let r6 = mark_step (enum_family c.args.depth) c.args.tokens.now c.args.at c.args.at kind.RightBrace (counted c.args.depth 0) _ c.in_ok-rest.after_rest (c.in_ok-rest.after_rest + 1) c.in_ok-right_brace.right_brace (omega arith) c.in_ok-right_brace.ensures.reads.0 r5 in
    record { settles = ends (enum_family c.args.depth) c.args.tokens.now c.args.at c.args.at _ (c.in_ok-rest.after_rest + 1) r6; after = omega (arith, c.in_ok-first.ensures.after, c.in_ok-rest.ensures.after); inside = (omega (arith, c.in_ok-right_brace.ensures.reads.1)) }
