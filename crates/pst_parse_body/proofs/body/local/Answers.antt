use Rattle.std.proofs.Common.{arith}
use Rattle.std.proofs.lemmas.Result.{err_from_is_err_and}
use Rattle.pst_ast.specs.SharedView.{view_plain}
use Rattle.pst_parse_body.specs.BodyFamilies.{view_value_option}
use Rattle.pst_parse_body.proofs.BodyRules.{local_plain_fails, local_name_fails, local_value_fails, local_semicolon_fails, local_given}
use Rattle.pst_parse_body.proofs.body.local.Goals as goal

pub returns-in_err-plain : goal.returns-in_err-plain
returns-in_err-plain c =
    let p = err_from_is_err_and c.from_residual.result c.from_residual.ensures.1 in
    rw (p.1, p.2) (local_plain_fails c.args.tokens.now c.args.at c.args.depth c.in_err-plain.field-0.0 c.in_err-plain.ensures)

pub returns-in_err-name : goal.returns-in_err-name
returns-in_err-name c =
    let p = err_from_is_err_and c.from_residual-in_err-name.result c.from_residual-in_err-name.ensures.1 in
    let t = c.in_ok-plain.ensures in
    rw (p.1, p.2) (local_name_fails c.args.tokens.now c.args.at c.args.depth (view_plain c.in_ok-plain.plain) c.in_ok-plain.behind t.after t.inside t.settles c.in_err-name.field-0.0 c.in_err-name.ensures.reads)

pub returns-in_err-value : goal.returns-in_err-value
returns-in_err-value c =
    let p = err_from_is_err_and c.from_residual-in_err-value.result c.from_residual-in_err-value.ensures.1 in
    let t = c.in_ok-plain.ensures in
    rw (p.1, p.2) (local_value_fails c.args.tokens.now c.args.at c.args.depth (view_plain c.in_ok-plain.plain) c.in_ok-plain.behind t.after t.inside t.settles c.in_ok-name.name c.in_ok-name.ensures.reads.0 c.in_err-value.field-0.0 c.in_err-value.ensures)

pub returns-in_err-semicolon : goal.returns-in_err-semicolon
returns-in_err-semicolon c =
    let p = err_from_is_err_and c.from_residual-in_err-semicolon.result c.from_residual-in_err-semicolon.ensures.1 in
    let t = c.in_ok-plain.ensures in
    let v = c.in_ok-value.ensures in
    rw (p.1, p.2) (local_semicolon_fails c.args.tokens.now c.args.at c.args.depth (view_plain c.in_ok-plain.plain) c.in_ok-plain.behind t.after t.inside t.settles c.in_ok-name.name c.in_ok-name.ensures.reads.0 (view_value_option c.in_ok-value.value) c.in_ok-value.after v.after v.inside v.settles c.in_err-semicolon.field-0.0 c.in_err-semicolon.ensures.reads)

pub returns : goal.returns
returns c =
    let t = c.in_ok-plain.ensures in
    let v = c.in_ok-value.ensures in
    record {
      settles = rw c.in_ok-plain-2.ensures.ok (local_given c.args.tokens.now c.args.at c.args.depth (view_plain c.in_ok-plain.plain) c.in_ok-plain.behind t.after t.inside t.settles c.in_ok-name.name c.in_ok-name.ensures.reads.0 (view_value_option c.in_ok-value.value) c.in_ok-value.after v.after v.inside v.settles c.in_ok-semicolon.semicolon c.in_ok-semicolon.ensures.reads.0);
      after = omega (arith, t.after, v.after);
      inside = c.in_ok-semicolon.ensures.reads.1;
      no_else = λ opens. absurd cc;
    }
