use Rattle.std.proofs.Common.{arith}
use Rattle.std.proofs.lemmas.Result.{err_from_is_err_and}
use Rattle.pst_ast.specs.BodyView.{view_source}
use Rattle.pst_parse_body.proofs.CallRules.{value_fails, value_given}
use Rattle.pst_parse_body.proofs.call.value.Goals as goal

pub returns-in_err-source : goal.returns-in_err-source
returns-in_err-source c =
    let p = err_from_is_err_and c.from_residual-in_err-source.result c.from_residual-in_err-source.ensures.1 in
    rw (p.1, p.2) (value_fails c.args.tokens.now c.args.at c.args.depth c.in_ok-equal.equal c.in_ok-equal.ensures.reads.0 c.in_err-source.field-0.0 c.in_err-source.ensures)

pub returns : goal.returns
returns c =
    let s = c.in_ok-source.ensures in
    record {
      settles = value_given c.args.tokens.now c.args.at c.args.depth c.in_ok-equal.equal c.in_ok-equal.ensures.reads.0 (view_source c.in_ok-source.source) c.in_ok-source.after s.after s.settles;
      after = omega (arith, s.after);
      inside = s.inside;
    }
