use Rattle.std.proofs.Common.{arith, rules}
use Rattle.std.proofs.lemmas.Result.{err_from_is_err_and}
use Rattle.pst_ast.specs.BodyView.{view_value, view_call}
use Rattle.pst_parse_body.proofs.BodyRules.{assign_value_fails, assign_semicolon_fails, assign_given, called_fails, called_semicolon_fails, called_given}
use Rattle.pst_parse_body.proofs.body.named.Goals as goal

pub returns-in_err-value : goal.returns-in_err-value
returns-in_err-value c =
    let p = err_from_is_err_and c.from_residual-in_err-value.result c.from_residual-in_err-value.ensures.1 in
    rw (p.1, p.2) (assign_value_fails c.args.tokens.now c.args.at c.args.depth c.in_ok-name.name c.in_ok-name.ensures.reads.0 (search rules) c.in_err-value.field-0.0 c.in_err-value.ensures)

pub returns-in_err-semicolon : goal.returns-in_err-semicolon
returns-in_err-semicolon c =
    let p = err_from_is_err_and c.from_residual-in_err-semicolon.result c.from_residual-in_err-semicolon.ensures.1 in
    let v = c.in_ok-value.ensures in
    rw (p.1, p.2) (assign_semicolon_fails c.args.tokens.now c.args.at c.args.depth c.in_ok-name.name c.in_ok-name.ensures.reads.0 (search rules) (view_value c.in_ok-value.value) c.in_ok-value.after v.after v.inside v.settles c.in_err-semicolon.field-0.0 c.in_err-semicolon.ensures.reads)

pub returns-then-is : goal.returns-then-is
returns-then-is c =
    let v = c.in_ok-value.ensures in
    record {
      settles = rw c.in_ok-source.ensures.ok (assign_given c.args.tokens.now c.args.at c.args.depth c.in_ok-name.name c.in_ok-name.ensures.reads.0 (search rules) (view_value c.in_ok-value.value) c.in_ok-value.after v.after v.inside v.settles c.in_ok-semicolon.semicolon c.in_ok-semicolon.ensures.reads.0);
      after = omega (arith, v.after);
      inside = c.in_ok-semicolon.ensures.reads.1;
      no_else = λ opens. absurd cc;
    }

pub returns-in_err-call : goal.returns-in_err-call
returns-in_err-call c =
    let p = err_from_is_err_and c.from_residual-in_err-call.result c.from_residual-in_err-call.ensures.1 in
    rw (p.1, p.2) (called_fails c.args.tokens.now c.args.at c.args.depth c.in_ok-name.name c.in_ok-name.ensures.reads.0 (search rules) c.in_err-call.field-0.0 c.in_err-call.ensures)

pub returns-in_err-semicolon-2 : goal.returns-in_err-semicolon-2
returns-in_err-semicolon-2 c =
    let p = err_from_is_err_and c.from_residual-in_err-semicolon-2.result c.from_residual-in_err-semicolon-2.ensures.1 in
    let k = c.in_ok-call.ensures in
    rw (p.1, p.2) (called_semicolon_fails c.args.tokens.now c.args.at c.args.depth c.in_ok-name.name c.in_ok-name.ensures.reads.0 (search rules) (view_call c.in_ok-call.call) c.in_ok-call.after k.after k.inside k.settles c.in_err-semicolon-2.field-0.0 c.in_err-semicolon-2.ensures.reads)

pub returns : goal.returns
returns c =
    let k = c.in_ok-call.ensures in
    record {
      settles = rw c.in_ok-call-2.ensures.ok (called_given c.args.tokens.now c.args.at c.args.depth c.in_ok-name.name c.in_ok-name.ensures.reads.0 (search rules) (view_call c.in_ok-call.call) c.in_ok-call.after k.after k.inside k.settles c.in_ok-semicolon-2.semicolon c.in_ok-semicolon-2.ensures.reads.0);
      after = omega (arith, k.after);
      inside = c.in_ok-semicolon-2.ensures.reads.1;
      no_else = λ opens. absurd cc;
    }
