use Rattle.pst_ast.specs.DeclarationView.{view_answer}
use Rattle.pst_ast.specs.Limits.{counted}
use Rattle.pst_parse_member.proofs.Kept.{part_fault, part_read, token_fault, token_read}
use Rattle.pst_parse_member.proofs.enums.function.Goals as goal
use Rattle.pst_parse_part.specs.Choices.{optional}
use Rattle.pst_parse_member.specs.Families.{answer_family, function_family, function_rest_family, view_function_rest}
use Rattle.pst_parse_part.specs.Families.{mark_family}
use Rattle.pst_parse_expr.specs.Constraints.{is_at}
use Rattle.pst_reading.proofs.Reaching.{begin, step, mark_step, name_step, ends, fails, mark_fails, name_fails}
use Rattle.pst_reading.specs.Parser.{name_by}
use Rattle.pst_token.specs.declared.kind.Kind.TheVariants as kind
use Rattle.std.proofs.Common.{arith, ◌+◌}
use Rattle.std.proofs.lemmas.Result.{err_from_is_err_and}

pub returns-in_err-target : goal.returns-in_err-target
returns-in_err-target c =
    let p = err_from_is_err_and c.from_residual-in_err-target.result c.from_residual-in_err-target.ensures.1 in
    let r1 = mark_step (function_family c.args.depth) c.args.tokens.now c.args.at c.args.at kind.Import (counted c.args.depth 0) _ c.args.at (c.args.at + 1) c.in_ok-import.import (omega arith) c.in_ok-import.ensures.reads.0 (begin (function_family c.args.depth) c.args.tokens.now c.args.at c.args.at) in
    rw (p.1, p.2) (fails (function_family c.args.depth) c.args.tokens.now c.args.at c.args.at (optional (is_at kind.Target) (mark_family kind.Target c.args.depth)) _ (c.args.at + 1) (c.args.at + 1) c.in_err-target.field-0.0 (omega arith) c.in_err-target.ensures r1)

pub returns-in_err-function : goal.returns-in_err-function
returns-in_err-function c =
    let p = err_from_is_err_and c.from_residual-in_err-function.result c.from_residual-in_err-function.ensures.1 in
    let r1 = mark_step (function_family c.args.depth) c.args.tokens.now c.args.at c.args.at kind.Import (counted c.args.depth 0) _ c.args.at (c.args.at + 1) c.in_ok-import.import (omega arith) c.in_ok-import.ensures.reads.0 (begin (function_family c.args.depth) c.args.tokens.now c.args.at c.args.at) in
    let r2 = step (function_family c.args.depth) c.args.tokens.now c.args.at c.args.at (optional (is_at kind.Target) (mark_family kind.Target c.args.depth)) _ (c.args.at + 1) (c.args.at + 1) c.in_ok-target.after_target c.in_ok-target.target (omega arith) (omega (arith, c.in_ok-target.ensures.after)) c.in_ok-target.ensures.settles r1 in
    rw (p.1, p.2) (mark_fails (function_family c.args.depth) c.args.tokens.now c.args.at c.args.at kind.Function (counted c.args.depth 0) _ c.in_ok-target.after_target c.in_err-function.field-0.0 c.in_ok-target.ensures.inside c.in_err-function.ensures.reads r2)

pub returns-in_err-answered : goal.returns-in_err-answered
returns-in_err-answered c =
    let p = err_from_is_err_and c.from_residual-in_err-answered.result c.from_residual-in_err-answered.ensures.1 in
    let r1 = mark_step (function_family c.args.depth) c.args.tokens.now c.args.at c.args.at kind.Import (counted c.args.depth 0) _ c.args.at (c.args.at + 1) c.in_ok-import.import (omega arith) c.in_ok-import.ensures.reads.0 (begin (function_family c.args.depth) c.args.tokens.now c.args.at c.args.at) in
    let r2 = step (function_family c.args.depth) c.args.tokens.now c.args.at c.args.at (optional (is_at kind.Target) (mark_family kind.Target c.args.depth)) _ (c.args.at + 1) (c.args.at + 1) c.in_ok-target.after_target c.in_ok-target.target (omega arith) (omega (arith, c.in_ok-target.ensures.after)) c.in_ok-target.ensures.settles r1 in
    let r3 = mark_step (function_family c.args.depth) c.args.tokens.now c.args.at c.args.at kind.Function (counted c.args.depth 0) _ c.in_ok-target.after_target (c.in_ok-target.after_target + 1) c.in_ok-function.function (omega arith) c.in_ok-function.ensures.reads.0 r2 in
    rw (p.1, p.2) (fails (function_family c.args.depth) c.args.tokens.now c.args.at c.args.at (answer_family c.args.depth) _ (c.in_ok-target.after_target + 1) (c.in_ok-target.after_target + 1) c.in_err-answered.field-0.0 (omega (arith, c.in_ok-target.ensures.after)) c.in_err-answered.ensures r3)

pub returns-in_err-front : goal.returns-in_err-front
returns-in_err-front c =
    let p = err_from_is_err_and c.from_residual-in_err-front.result c.from_residual-in_err-front.ensures.1 in
    let r1 = mark_step (function_family c.args.depth) c.args.tokens.now c.args.at c.args.at kind.Import (counted c.args.depth 0) _ c.args.at (c.args.at + 1) c.in_ok-import.import (omega arith) c.in_ok-import.ensures.reads.0 (begin (function_family c.args.depth) c.args.tokens.now c.args.at c.args.at) in
    let r2 = step (function_family c.args.depth) c.args.tokens.now c.args.at c.args.at (optional (is_at kind.Target) (mark_family kind.Target c.args.depth)) _ (c.args.at + 1) (c.args.at + 1) c.in_ok-target.after_target c.in_ok-target.target (omega arith) (omega (arith, c.in_ok-target.ensures.after)) c.in_ok-target.ensures.settles r1 in
    let r3 = mark_step (function_family c.args.depth) c.args.tokens.now c.args.at c.args.at kind.Function (counted c.args.depth 0) _ c.in_ok-target.after_target (c.in_ok-target.after_target + 1) c.in_ok-function.function (omega arith) c.in_ok-function.ensures.reads.0 r2 in
    let r4 = step (function_family c.args.depth) c.args.tokens.now c.args.at c.args.at (answer_family c.args.depth) _ (c.in_ok-target.after_target + 1) (c.in_ok-target.after_target + 1) c.in_ok-answered.after_answer (view_answer c.in_ok-answered.answered) (omega (arith, c.in_ok-target.ensures.after)) (omega (arith, c.in_ok-answered.ensures.after)) c.in_ok-answered.ensures.settles r3 in
    rw (p.1, p.2) (name_fails (function_family c.args.depth) c.args.tokens.now c.args.at c.args.at (counted c.args.depth 0) _ c.in_ok-answered.after_answer c.in_err-front.field-0.0 c.in_ok-answered.ensures.inside (token_fault (name_by (counted c.args.depth 0)) c.args.tokens.now c.in_ok-answered.after_answer _ _ c.in_err-front.ensures.err c.expect_name-named.ensures.reads) r4)

pub returns-in_err-answer : goal.returns-in_err-answer
returns-in_err-answer c =
    let named = token_read (name_by (counted c.args.depth 0)) c.args.tokens.now c.in_ok-answered.after_answer _ _ c.in_ok-front.ensures.ok.1 c.expect_name-named.ensures.reads in
    let p = err_from_is_err_and c.from_residual-in_err-answer.result c.from_residual-in_err-answer.ensures.1 in
    let r1 = mark_step (function_family c.args.depth) c.args.tokens.now c.args.at c.args.at kind.Import (counted c.args.depth 0) _ c.args.at (c.args.at + 1) c.in_ok-import.import (omega arith) c.in_ok-import.ensures.reads.0 (begin (function_family c.args.depth) c.args.tokens.now c.args.at c.args.at) in
    let r2 = step (function_family c.args.depth) c.args.tokens.now c.args.at c.args.at (optional (is_at kind.Target) (mark_family kind.Target c.args.depth)) _ (c.args.at + 1) (c.args.at + 1) c.in_ok-target.after_target c.in_ok-target.target (omega arith) (omega (arith, c.in_ok-target.ensures.after)) c.in_ok-target.ensures.settles r1 in
    let r3 = mark_step (function_family c.args.depth) c.args.tokens.now c.args.at c.args.at kind.Function (counted c.args.depth 0) _ c.in_ok-target.after_target (c.in_ok-target.after_target + 1) c.in_ok-function.function (omega arith) c.in_ok-function.ensures.reads.0 r2 in
    let r4 = step (function_family c.args.depth) c.args.tokens.now c.args.at c.args.at (answer_family c.args.depth) _ (c.in_ok-target.after_target + 1) (c.in_ok-target.after_target + 1) c.in_ok-answered.after_answer (view_answer c.in_ok-answered.answered) (omega (arith, c.in_ok-target.ensures.after)) (omega (arith, c.in_ok-answered.ensures.after)) c.in_ok-answered.ensures.settles r3 in
    let r5 = name_step (function_family c.args.depth) c.args.tokens.now c.args.at c.args.at (counted c.args.depth 0) _ c.in_ok-answered.after_answer (c.in_ok-answered.after_answer + 1) c.in_ok-front.name (omega arith) named.0 r4 in
    rw (p.1, p.2) (fails (function_family c.args.depth) c.args.tokens.now c.args.at c.args.at (function_rest_family c.args.depth) _ (c.in_ok-answered.after_answer + 1) (c.in_ok-answered.after_answer + 1) c.in_err-answer.field-0.0 (omega (arith, c.in_ok-target.ensures.after, c.in_ok-answered.ensures.after)) (part_fault view_function_rest (function_rest_family c.args.depth) c.args.tokens.now (c.in_ok-answered.after_answer + 1) (c.in_ok-answered.after_answer + 1) 1 _ _ c.in_err-answer.ensures.err c.function_rest-behind.ensures) r5)

pub returns : goal.returns
returns c =
    let named = token_read (name_by (counted c.args.depth 0)) c.args.tokens.now c.in_ok-answered.after_answer _ _ c.in_ok-front.ensures.ok.1 c.expect_name-named.ensures.reads in
    let behind = part_read view_function_rest (function_rest_family c.args.depth) c.args.tokens.now (c.in_ok-answered.after_answer + 1) (c.in_ok-answered.after_answer + 1) 1 _ _ c.in_ok-answer.ensures.ok.1 c.function_rest-behind.ensures in
    let r1 = mark_step (function_family c.args.depth) c.args.tokens.now c.args.at c.args.at kind.Import (counted c.args.depth 0) _ c.args.at (c.args.at + 1) c.in_ok-import.import (omega arith) c.in_ok-import.ensures.reads.0 (begin (function_family c.args.depth) c.args.tokens.now c.args.at c.args.at) in
    let r2 = step (function_family c.args.depth) c.args.tokens.now c.args.at c.args.at (optional (is_at kind.Target) (mark_family kind.Target c.args.depth)) _ (c.args.at + 1) (c.args.at + 1) c.in_ok-target.after_target c.in_ok-target.target (omega arith) (omega (arith, c.in_ok-target.ensures.after)) c.in_ok-target.ensures.settles r1 in
    let r3 = mark_step (function_family c.args.depth) c.args.tokens.now c.args.at c.args.at kind.Function (counted c.args.depth 0) _ c.in_ok-target.after_target (c.in_ok-target.after_target + 1) c.in_ok-function.function (omega arith) c.in_ok-function.ensures.reads.0 r2 in
    let r4 = step (function_family c.args.depth) c.args.tokens.now c.args.at c.args.at (answer_family c.args.depth) _ (c.in_ok-target.after_target + 1) (c.in_ok-target.after_target + 1) c.in_ok-answered.after_answer (view_answer c.in_ok-answered.answered) (omega (arith, c.in_ok-target.ensures.after)) (omega (arith, c.in_ok-answered.ensures.after)) c.in_ok-answered.ensures.settles r3 in
    let r5 = name_step (function_family c.args.depth) c.args.tokens.now c.args.at c.args.at (counted c.args.depth 0) _ c.in_ok-answered.after_answer (c.in_ok-answered.after_answer + 1) c.in_ok-front.name (omega arith) named.0 r4 in
    let r6 = step (function_family c.args.depth) c.args.tokens.now c.args.at c.args.at (function_rest_family c.args.depth) _ (c.in_ok-answered.after_answer + 1) (c.in_ok-answered.after_answer + 1) c.in_ok-answer.after_rest (view_function_rest c.in_ok-answer.rest) (omega (arith, c.in_ok-target.ensures.after, c.in_ok-answered.ensures.after)) (omega (arith, behind.after)) behind.settles r5 in
    record { settles = rw (c.in_ok-answer.ensures.ok.0, c.in_ok-front.ensures.ok.0) (ends (function_family c.args.depth) c.args.tokens.now c.args.at c.args.at _ c.in_ok-answer.after_rest r6); after = omega (arith, c.in_ok-target.ensures.after, c.in_ok-answered.ensures.after, behind.after); inside = behind.inside }
