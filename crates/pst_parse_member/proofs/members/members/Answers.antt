use Rattle.pst_ast.specs.Limits.{counted}
use Rattle.pst_ast.specs.SharedView.{view_names}
use Rattle.pst_parse_member.proofs.members.members.Goals as goal
use Rattle.pst_parse_member.specs.Families.{members_family}
use Rattle.pst_parse_part.specs.Families.{names_family, type_name_family}
use Rattle.pst_reading.proofs.Reaching.{begin, step, mark_step, ends, fails, mark_fails}
use Rattle.pst_token.specs.declared.kind.Kind.TheVariants as kind
use Rattle.std.proofs.Common.{arith, ◌+◌}
use Rattle.std.proofs.lemmas.Result.{err_from_is_err_and}

pub returns-in_err-member_type : goal.returns-in_err-member_type
returns-in_err-member_type c =
    let p = err_from_is_err_and c.from_residual.result c.from_residual.ensures.1 in
    rw (p.1, p.2) (fails (members_family c.args.depth) c.args.tokens.now c.args.at c.args.at (type_name_family c.args.depth) _ c.args.at c.args.at c.in_err-member_type.field-0.0 (omega arith) c.in_err-member_type.ensures (begin (members_family c.args.depth) c.args.tokens.now c.args.at c.args.at))

pub returns-in_err-names : goal.returns-in_err-names
returns-in_err-names c =
    let p = err_from_is_err_and c.from_residual-in_err-names.result c.from_residual-in_err-names.ensures.1 in
    let r1 = step (members_family c.args.depth) c.args.tokens.now c.args.at c.args.at (type_name_family c.args.depth) _ c.args.at c.args.at c.in_ok-member_type.after_member_type c.in_ok-member_type.member_type (omega arith) (omega (arith, c.in_ok-member_type.ensures.after)) c.in_ok-member_type.ensures.settles (begin (members_family c.args.depth) c.args.tokens.now c.args.at c.args.at) in
    rw (p.1, p.2) (fails (members_family c.args.depth) c.args.tokens.now c.args.at c.args.at (names_family c.args.depth) _ c.in_ok-member_type.after_member_type c.in_ok-member_type.after_member_type c.in_err-names.field-0.0 (omega (arith, c.in_ok-member_type.ensures.after)) c.in_err-names.ensures r1)

pub returns-in_err-semicolon : goal.returns-in_err-semicolon
returns-in_err-semicolon c =
    let p = err_from_is_err_and c.from_residual-in_err-semicolon.result c.from_residual-in_err-semicolon.ensures.1 in
    let r1 = step (members_family c.args.depth) c.args.tokens.now c.args.at c.args.at (type_name_family c.args.depth) _ c.args.at c.args.at c.in_ok-member_type.after_member_type c.in_ok-member_type.member_type (omega arith) (omega (arith, c.in_ok-member_type.ensures.after)) c.in_ok-member_type.ensures.settles (begin (members_family c.args.depth) c.args.tokens.now c.args.at c.args.at) in
    let r2 = step (members_family c.args.depth) c.args.tokens.now c.args.at c.args.at (names_family c.args.depth) _ c.in_ok-member_type.after_member_type c.in_ok-member_type.after_member_type c.in_ok-names.after_names (view_names c.in_ok-names.names) (omega (arith, c.in_ok-member_type.ensures.after)) (omega (arith, c.in_ok-names.ensures.after)) c.in_ok-names.ensures.settles r1 in
    rw (p.1, p.2) (mark_fails (members_family c.args.depth) c.args.tokens.now c.args.at c.args.at kind.Semicolon (counted c.args.depth 0) _ c.in_ok-names.after_names c.in_err-semicolon.field-0.0 c.in_ok-names.ensures.inside c.in_err-semicolon.ensures.reads r2)

pub returns : goal.returns
returns c =
    let r1 = step (members_family c.args.depth) c.args.tokens.now c.args.at c.args.at (type_name_family c.args.depth) _ c.args.at c.args.at c.in_ok-member_type.after_member_type c.in_ok-member_type.member_type (omega arith) (omega (arith, c.in_ok-member_type.ensures.after)) c.in_ok-member_type.ensures.settles (begin (members_family c.args.depth) c.args.tokens.now c.args.at c.args.at) in
    let r2 = step (members_family c.args.depth) c.args.tokens.now c.args.at c.args.at (names_family c.args.depth) _ c.in_ok-member_type.after_member_type c.in_ok-member_type.after_member_type c.in_ok-names.after_names (view_names c.in_ok-names.names) (omega (arith, c.in_ok-member_type.ensures.after)) (omega (arith, c.in_ok-names.ensures.after)) c.in_ok-names.ensures.settles r1 in
    let r3 = mark_step (members_family c.args.depth) c.args.tokens.now c.args.at c.args.at kind.Semicolon (counted c.args.depth 0) _ c.in_ok-names.after_names (c.in_ok-names.after_names + 1) c.in_ok-semicolon.semicolon (omega arith) c.in_ok-semicolon.ensures.reads.0 r2 in
    record { settles = ends (members_family c.args.depth) c.args.tokens.now c.args.at c.args.at _ (c.in_ok-names.after_names + 1) r3; after = omega (arith, c.in_ok-member_type.ensures.after, c.in_ok-names.ensures.after); inside = (omega (arith, c.in_ok-semicolon.ensures.reads.1)) }
