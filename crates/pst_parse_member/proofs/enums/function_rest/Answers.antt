use Rattle.pst_ast.specs.DeclarationView.{view_parameters}
use Rattle.pst_ast.specs.Limits.{counted}
use Rattle.pst_parse_member.proofs.Kept.{token_fault, token_read}
use Rattle.pst_parse_member.proofs.enums.function_rest.Goals as goal
use Rattle.pst_parse_part.specs.Choices.{optional}
use Rattle.pst_parse_member.specs.Families.{function_rest_family, parameters_family}
use Rattle.pst_parse_expr.specs.Constraints.{is_other}
use Rattle.pst_reading.proofs.Reaching.{begin, step, mark_step, ends, fails, mark_fails}
use Rattle.pst_reading.specs.Parser.{mark_by}
use Rattle.pst_token.specs.declared.kind.Kind.TheVariants as kind
use Rattle.std.proofs.Common.{arith, ◌+◌}
use Rattle.std.proofs.lemmas.Result.{err_from_is_err_and}
use Rattle.std.specs.Option.{option_map}

pub returns-in_err-listed : goal.returns-in_err-listed
returns-in_err-listed c =
    let p = err_from_is_err_and c.from_residual-in_err-listed.result c.from_residual-in_err-listed.ensures.1 in
    let r1 = mark_step (function_rest_family c.args.depth) c.args.tokens.now c.args.at c.args.at kind.LeftParenthesis (counted c.args.depth 0) _ c.args.at (c.args.at + 1) c.in_ok-left_parenthesis.left_parenthesis (omega arith) c.in_ok-left_parenthesis.ensures.reads.0 (begin (function_rest_family c.args.depth) c.args.tokens.now c.args.at c.args.at) in
    rw (p.1, p.2) (fails (function_rest_family c.args.depth) c.args.tokens.now c.args.at c.args.at (optional (is_other kind.RightParenthesis) (parameters_family c.args.depth)) _ (c.args.at + 1) (c.args.at + 1) c.in_err-listed.field-0.0 (omega arith) c.in_err-listed.ensures r1)

pub returns-in_err-front : goal.returns-in_err-front
returns-in_err-front c =
    let p = err_from_is_err_and c.from_residual-in_err-front.result c.from_residual-in_err-front.ensures.1 in
    let r1 = mark_step (function_rest_family c.args.depth) c.args.tokens.now c.args.at c.args.at kind.LeftParenthesis (counted c.args.depth 0) _ c.args.at (c.args.at + 1) c.in_ok-left_parenthesis.left_parenthesis (omega arith) c.in_ok-left_parenthesis.ensures.reads.0 (begin (function_rest_family c.args.depth) c.args.tokens.now c.args.at c.args.at) in
    let r2 = step (function_rest_family c.args.depth) c.args.tokens.now c.args.at c.args.at (optional (is_other kind.RightParenthesis) (parameters_family c.args.depth)) _ (c.args.at + 1) (c.args.at + 1) c.in_ok-listed.after_parameters (option_map view_parameters c.in_ok-listed.listed) (omega arith) (omega (arith, c.in_ok-listed.ensures.after)) c.in_ok-listed.ensures.settles r1 in
    rw (p.1, p.2) (mark_fails (function_rest_family c.args.depth) c.args.tokens.now c.args.at c.args.at kind.RightParenthesis (counted c.args.depth 0) _ c.in_ok-listed.after_parameters c.in_err-front.field-0.0 c.in_ok-listed.ensures.inside (token_fault (mark_by kind.RightParenthesis (counted c.args.depth 0)) c.args.tokens.now c.in_ok-listed.after_parameters _ _ c.in_err-front.ensures.err c.expect-closing.ensures.reads) r2)

pub returns-in_err-parameters : goal.returns-in_err-parameters
returns-in_err-parameters c =
    let closing = token_read (mark_by kind.RightParenthesis (counted c.args.depth 0)) c.args.tokens.now c.in_ok-listed.after_parameters _ _ c.in_ok-front.ensures.ok.1 c.expect-closing.ensures.reads in
    let p = err_from_is_err_and c.from_residual-in_err-parameters.result c.from_residual-in_err-parameters.ensures.1 in
    let r1 = mark_step (function_rest_family c.args.depth) c.args.tokens.now c.args.at c.args.at kind.LeftParenthesis (counted c.args.depth 0) _ c.args.at (c.args.at + 1) c.in_ok-left_parenthesis.left_parenthesis (omega arith) c.in_ok-left_parenthesis.ensures.reads.0 (begin (function_rest_family c.args.depth) c.args.tokens.now c.args.at c.args.at) in
    let r2 = step (function_rest_family c.args.depth) c.args.tokens.now c.args.at c.args.at (optional (is_other kind.RightParenthesis) (parameters_family c.args.depth)) _ (c.args.at + 1) (c.args.at + 1) c.in_ok-listed.after_parameters (option_map view_parameters c.in_ok-listed.listed) (omega arith) (omega (arith, c.in_ok-listed.ensures.after)) c.in_ok-listed.ensures.settles r1 in
    let r3 = mark_step (function_rest_family c.args.depth) c.args.tokens.now c.args.at c.args.at kind.RightParenthesis (counted c.args.depth 0) _ c.in_ok-listed.after_parameters (c.in_ok-listed.after_parameters + 1) c.in_ok-front.right_parenthesis (omega arith) closing.0 r2 in
    rw (p.1, p.2) (mark_fails (function_rest_family c.args.depth) c.args.tokens.now c.args.at c.args.at kind.Semicolon (counted c.args.depth 0) _ (c.in_ok-listed.after_parameters + 1) c.in_err-parameters.field-0.0 (omega (arith, closing.1)) (token_fault (mark_by kind.Semicolon (counted c.args.depth 0)) c.args.tokens.now (c.in_ok-listed.after_parameters + 1) _ _ c.in_err-parameters.ensures.err c.expect-last.ensures.reads) r3)

pub returns : goal.returns
returns c =
    let closing = token_read (mark_by kind.RightParenthesis (counted c.args.depth 0)) c.args.tokens.now c.in_ok-listed.after_parameters _ _ c.in_ok-front.ensures.ok.1 c.expect-closing.ensures.reads in
    let last = token_read (mark_by kind.Semicolon (counted c.args.depth 0)) c.args.tokens.now (c.in_ok-listed.after_parameters + 1) _ _ c.in_ok-parameters.ensures.ok.1 c.expect-last.ensures.reads in
    let r1 = mark_step (function_rest_family c.args.depth) c.args.tokens.now c.args.at c.args.at kind.LeftParenthesis (counted c.args.depth 0) _ c.args.at (c.args.at + 1) c.in_ok-left_parenthesis.left_parenthesis (omega arith) c.in_ok-left_parenthesis.ensures.reads.0 (begin (function_rest_family c.args.depth) c.args.tokens.now c.args.at c.args.at) in
    let r2 = step (function_rest_family c.args.depth) c.args.tokens.now c.args.at c.args.at (optional (is_other kind.RightParenthesis) (parameters_family c.args.depth)) _ (c.args.at + 1) (c.args.at + 1) c.in_ok-listed.after_parameters (option_map view_parameters c.in_ok-listed.listed) (omega arith) (omega (arith, c.in_ok-listed.ensures.after)) c.in_ok-listed.ensures.settles r1 in
    let r3 = mark_step (function_rest_family c.args.depth) c.args.tokens.now c.args.at c.args.at kind.RightParenthesis (counted c.args.depth 0) _ c.in_ok-listed.after_parameters (c.in_ok-listed.after_parameters + 1) c.in_ok-front.right_parenthesis (omega arith) closing.0 r2 in
    let r4 = mark_step (function_rest_family c.args.depth) c.args.tokens.now c.args.at c.args.at kind.Semicolon (counted c.args.depth 0) _ (c.in_ok-listed.after_parameters + 1) (c.in_ok-listed.after_parameters + 2) c.in_ok-parameters.semicolon (omega arith) last.0 r3 in
    record { settles = rw (c.in_ok-parameters.ensures.ok.0, c.in_ok-front.ensures.ok.0) (ends (function_rest_family c.args.depth) c.args.tokens.now c.args.at c.args.at _ (c.in_ok-listed.after_parameters + 2) r4); after = omega (arith, c.in_ok-listed.ensures.after); inside = (omega (arith, last.1)) }
