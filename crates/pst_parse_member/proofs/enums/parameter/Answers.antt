use Rattle.pst_ast.specs.Limits.{counted}
use Rattle.pst_ast.specs.SharedView.{view_plain}
use Rattle.pst_parse_member.proofs.Kept.{token_fault, token_read}
use Rattle.pst_parse_member.proofs.enums.parameter.Goals as goal
use Rattle.pst_parse_part.specs.Choices.{optional}
use Rattle.pst_parse_member.specs.Families.{parameter_family}
use Rattle.pst_parse_part.specs.Families.{plain_family, mark_family}
use Rattle.pst_parse_expr.specs.Constraints.{is_at}
use Rattle.pst_reading.proofs.Reaching.{begin, step, name_step, ends, fails, name_fails}
use Rattle.pst_reading.specs.Parser.{name_by}
use Rattle.pst_token.specs.declared.kind.Kind.TheVariants as kind
use Rattle.std.proofs.Common.{arith, ◌+◌}
use Rattle.std.proofs.lemmas.Result.{err_from_is_err_and}

pub returns-in_err-input : goal.returns-in_err-input
returns-in_err-input c =
    let p = err_from_is_err_and c.from_residual.result c.from_residual.ensures.1 in
    rw (p.1, p.2) (fails (parameter_family c.args.depth) c.args.tokens.now c.args.at c.args.at (optional (is_at kind.Input) (mark_family kind.Input c.args.depth)) _ c.args.at c.args.at c.in_err-input.field-0.0 (omega arith) c.in_err-input.ensures (begin (parameter_family c.args.depth) c.args.tokens.now c.args.at c.args.at))

pub returns-in_err-head : goal.returns-in_err-head
returns-in_err-head c =
    let p = err_from_is_err_and c.from_residual-in_err-head.result c.from_residual-in_err-head.ensures.1 in
    let r1 = step (parameter_family c.args.depth) c.args.tokens.now c.args.at c.args.at (optional (is_at kind.Input) (mark_family kind.Input c.args.depth)) _ c.args.at c.args.at c.in_ok-input.after_input c.in_ok-input.input (omega arith) (omega (arith, c.in_ok-input.ensures.after)) c.in_ok-input.ensures.settles (begin (parameter_family c.args.depth) c.args.tokens.now c.args.at c.args.at) in
    rw (p.1, p.2) (fails (parameter_family c.args.depth) c.args.tokens.now c.args.at c.args.at (plain_family c.args.depth) _ c.in_ok-input.after_input c.in_ok-input.after_input c.in_err-head.field-0.0 (omega (arith, c.in_ok-input.ensures.after)) c.in_err-head.ensures r1)

pub returns-in_err-plain : goal.returns-in_err-plain
returns-in_err-plain c =
    let p = err_from_is_err_and c.from_residual-in_err-plain.result c.from_residual-in_err-plain.ensures.1 in
    let r1 = step (parameter_family c.args.depth) c.args.tokens.now c.args.at c.args.at (optional (is_at kind.Input) (mark_family kind.Input c.args.depth)) _ c.args.at c.args.at c.in_ok-input.after_input c.in_ok-input.input (omega arith) (omega (arith, c.in_ok-input.ensures.after)) c.in_ok-input.ensures.settles (begin (parameter_family c.args.depth) c.args.tokens.now c.args.at c.args.at) in
    let r2 = step (parameter_family c.args.depth) c.args.tokens.now c.args.at c.args.at (plain_family c.args.depth) _ c.in_ok-input.after_input c.in_ok-input.after_input c.in_ok-head.after_plain (view_plain c.in_ok-head.head) (omega (arith, c.in_ok-input.ensures.after)) (omega (arith, c.in_ok-head.ensures.after)) c.in_ok-head.ensures.settles r1 in
    rw (p.1, p.2) (name_fails (parameter_family c.args.depth) c.args.tokens.now c.args.at c.args.at (counted c.args.depth 0) _ c.in_ok-head.after_plain c.in_err-plain.field-0.0 c.in_ok-head.ensures.inside (token_fault (name_by (counted c.args.depth 0)) c.args.tokens.now c.in_ok-head.after_plain _ _ c.in_err-plain.ensures.err c.expect_name-last.ensures.reads) r2)

pub returns : goal.returns
returns c =
    let read = token_read (name_by (counted c.args.depth 0)) c.args.tokens.now c.in_ok-head.after_plain _ _ c.in_ok-plain.ensures.ok.1 c.expect_name-last.ensures.reads in
    let r1 = step (parameter_family c.args.depth) c.args.tokens.now c.args.at c.args.at (optional (is_at kind.Input) (mark_family kind.Input c.args.depth)) _ c.args.at c.args.at c.in_ok-input.after_input c.in_ok-input.input (omega arith) (omega (arith, c.in_ok-input.ensures.after)) c.in_ok-input.ensures.settles (begin (parameter_family c.args.depth) c.args.tokens.now c.args.at c.args.at) in
    let r2 = step (parameter_family c.args.depth) c.args.tokens.now c.args.at c.args.at (plain_family c.args.depth) _ c.in_ok-input.after_input c.in_ok-input.after_input c.in_ok-head.after_plain (view_plain c.in_ok-head.head) (omega (arith, c.in_ok-input.ensures.after)) (omega (arith, c.in_ok-head.ensures.after)) c.in_ok-head.ensures.settles r1 in
    let r3 = name_step (parameter_family c.args.depth) c.args.tokens.now c.args.at c.args.at (counted c.args.depth 0) _ c.in_ok-head.after_plain (c.in_ok-head.after_plain + 1) c.in_ok-plain.name (omega arith) read.0 r2 in
    record { settles = rw c.in_ok-plain.ensures.ok.0 (ends (parameter_family c.args.depth) c.args.tokens.now c.args.at c.args.at _ (c.in_ok-head.after_plain + 1) r3); after = omega (arith, c.in_ok-input.ensures.after, c.in_ok-head.ensures.after); inside = (omega (arith, read.1)) }
