use Rattle.pst_ast.specs.Limits.{counted}
use Rattle.pst_ast.specs.SharedView.{view_names}
use Rattle.pst_parse_member.proofs.members.reference.Goals as goal
use Rattle.pst_parse_member.specs.Families.{reference_word_family, reference_family}
use Rattle.pst_parse_part.specs.Families.{names_family, type_name_family}
use Rattle.pst_reading.proofs.Reaching.{begin, step, mark_step, ends, fails, mark_fails}
use Rattle.pst_token.specs.declared.kind.Kind.TheVariants as kind
use Rattle.std.proofs.Common.{arith, ◌+◌}
use Rattle.std.proofs.lemmas.Result.{err_from_is_err_and}

pub returns-in_err-word : goal.returns-in_err-word
returns-in_err-word c =
    let p = err_from_is_err_and c.from_residual.result c.from_residual.ensures.1 in
    rw (p.1, p.2) (fails (reference_family c.args.depth) c.args.tokens.now c.args.at c.args.at (reference_word_family c.args.depth) _ c.args.at c.args.at c.in_err-word.field-0.0 (omega arith) c.in_err-word.ensures (begin (reference_family c.args.depth) c.args.tokens.now c.args.at c.args.at))

pub returns-in_err-object : goal.returns-in_err-object
returns-in_err-object c =
    let p = err_from_is_err_and c.from_residual-in_err-object.result c.from_residual-in_err-object.ensures.1 in
    let r1 = step (reference_family c.args.depth) c.args.tokens.now c.args.at c.args.at (reference_word_family c.args.depth) _ c.args.at c.args.at c.in_ok-word.after_word (c.in_ok-word.word, c.in_ok-word.place) (omega arith) (omega (arith, c.in_ok-word.ensures.after)) c.in_ok-word.ensures.settles (begin (reference_family c.args.depth) c.args.tokens.now c.args.at c.args.at) in
    rw (p.1, p.2) (fails (reference_family c.args.depth) c.args.tokens.now c.args.at c.args.at (type_name_family c.args.depth) _ c.in_ok-word.after_word c.in_ok-word.after_word c.in_err-object.field-0.0 (omega (arith, c.in_ok-word.ensures.after)) c.in_err-object.ensures r1)

pub returns-in_err-names : goal.returns-in_err-names
returns-in_err-names c =
    let p = err_from_is_err_and c.from_residual-in_err-names.result c.from_residual-in_err-names.ensures.1 in
    let r1 = step (reference_family c.args.depth) c.args.tokens.now c.args.at c.args.at (reference_word_family c.args.depth) _ c.args.at c.args.at c.in_ok-word.after_word (c.in_ok-word.word, c.in_ok-word.place) (omega arith) (omega (arith, c.in_ok-word.ensures.after)) c.in_ok-word.ensures.settles (begin (reference_family c.args.depth) c.args.tokens.now c.args.at c.args.at) in
    let r2 = step (reference_family c.args.depth) c.args.tokens.now c.args.at c.args.at (type_name_family c.args.depth) _ c.in_ok-word.after_word c.in_ok-word.after_word c.in_ok-object.after_object c.in_ok-object.object (omega (arith, c.in_ok-word.ensures.after)) (omega (arith, c.in_ok-object.ensures.after)) c.in_ok-object.ensures.settles r1 in
    rw (p.1, p.2) (fails (reference_family c.args.depth) c.args.tokens.now c.args.at c.args.at (names_family c.args.depth) _ c.in_ok-object.after_object c.in_ok-object.after_object c.in_err-names.field-0.0 (omega (arith, c.in_ok-word.ensures.after, c.in_ok-object.ensures.after)) c.in_err-names.ensures r2)

pub returns-in_err-semicolon : goal.returns-in_err-semicolon
returns-in_err-semicolon c =
    let p = err_from_is_err_and c.from_residual-in_err-semicolon.result c.from_residual-in_err-semicolon.ensures.1 in
    let r1 = step (reference_family c.args.depth) c.args.tokens.now c.args.at c.args.at (reference_word_family c.args.depth) _ c.args.at c.args.at c.in_ok-word.after_word (c.in_ok-word.word, c.in_ok-word.place) (omega arith) (omega (arith, c.in_ok-word.ensures.after)) c.in_ok-word.ensures.settles (begin (reference_family c.args.depth) c.args.tokens.now c.args.at c.args.at) in
    let r2 = step (reference_family c.args.depth) c.args.tokens.now c.args.at c.args.at (type_name_family c.args.depth) _ c.in_ok-word.after_word c.in_ok-word.after_word c.in_ok-object.after_object c.in_ok-object.object (omega (arith, c.in_ok-word.ensures.after)) (omega (arith, c.in_ok-object.ensures.after)) c.in_ok-object.ensures.settles r1 in
    let r3 = step (reference_family c.args.depth) c.args.tokens.now c.args.at c.args.at (names_family c.args.depth) _ c.in_ok-object.after_object c.in_ok-object.after_object c.in_ok-names.after_names (view_names c.in_ok-names.names) (omega (arith, c.in_ok-word.ensures.after, c.in_ok-object.ensures.after)) (omega (arith, c.in_ok-names.ensures.after)) c.in_ok-names.ensures.settles r2 in
    rw (p.1, p.2) (mark_fails (reference_family c.args.depth) c.args.tokens.now c.args.at c.args.at kind.Semicolon (counted c.args.depth 0) _ c.in_ok-names.after_names c.in_err-semicolon.field-0.0 c.in_ok-names.ensures.inside c.in_err-semicolon.ensures.reads r3)

pub returns : goal.returns
returns c =
    let r1 = step (reference_family c.args.depth) c.args.tokens.now c.args.at c.args.at (reference_word_family c.args.depth) _ c.args.at c.args.at c.in_ok-word.after_word (c.in_ok-word.word, c.in_ok-word.place) (omega arith) (omega (arith, c.in_ok-word.ensures.after)) c.in_ok-word.ensures.settles (begin (reference_family c.args.depth) c.args.tokens.now c.args.at c.args.at) in
    let r2 = step (reference_family c.args.depth) c.args.tokens.now c.args.at c.args.at (type_name_family c.args.depth) _ c.in_ok-word.after_word c.in_ok-word.after_word c.in_ok-object.after_object c.in_ok-object.object (omega (arith, c.in_ok-word.ensures.after)) (omega (arith, c.in_ok-object.ensures.after)) c.in_ok-object.ensures.settles r1 in
    let r3 = step (reference_family c.args.depth) c.args.tokens.now c.args.at c.args.at (names_family c.args.depth) _ c.in_ok-object.after_object c.in_ok-object.after_object c.in_ok-names.after_names (view_names c.in_ok-names.names) (omega (arith, c.in_ok-word.ensures.after, c.in_ok-object.ensures.after)) (omega (arith, c.in_ok-names.ensures.after)) c.in_ok-names.ensures.settles r2 in
    let r4 = mark_step (reference_family c.args.depth) c.args.tokens.now c.args.at c.args.at kind.Semicolon (counted c.args.depth 0) _ c.in_ok-names.after_names (c.in_ok-names.after_names + 1) c.in_ok-semicolon.semicolon (omega arith) c.in_ok-semicolon.ensures.reads.0 r3 in
    record { settles = ends (reference_family c.args.depth) c.args.tokens.now c.args.at c.args.at _ (c.in_ok-names.after_names + 1) r4; after = omega (arith, c.in_ok-word.ensures.after, c.in_ok-object.ensures.after, c.in_ok-names.ensures.after); inside = (omega (arith, c.in_ok-semicolon.ensures.reads.1)) }
