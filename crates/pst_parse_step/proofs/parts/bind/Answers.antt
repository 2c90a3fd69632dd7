use Rattle.std.proofs.Common.{arith, ◌-◌}
use Rattle.std.proofs.lemmas.Result.{err_from_is_err_and}
use Rattle.pst_ast.specs.ActivityView.{view_other_ends}
use Rattle.pst_parse_step.proofs.ActivityPartRules.{bind_bind_fails, bind_first_fails, bind_given, bind_others_fails, bind_semicolon_fails}
use Rattle.pst_parse_step.proofs.parts.bind.Goals as goal

pub returns-in_err-bind : goal.returns-in_err-bind
returns-in_err-bind c =
    let p = err_from_is_err_and c.from_residual.result c.from_residual.ensures.1 in
    rw (p.1, p.2) (bind_bind_fails c.args.tokens.now c.args.at c.args.depth c.in_err-bind.field-0.0 c.requires.inside c.in_err-bind.ensures.reads)

pub returns-in_err-first : goal.returns-in_err-first
returns-in_err-first c =
    let p = err_from_is_err_and c.from_residual-in_err-first.result c.from_residual-in_err-first.ensures.1 in
    rw (p.1, p.2) (bind_first_fails c.args.tokens.now c.args.at c.args.depth c.in_ok-bind.bind c.in_ok-bind.ensures.reads.0 c.in_ok-bind.ensures.reads.1 (omega (arith, c.in_ok-bind.ensures.reads.1)) c.in_err-first.field-0.0 c.in_err-first.ensures)

pub returns-in_err-others : goal.returns-in_err-others
returns-in_err-others c =
    let p = err_from_is_err_and c.from_residual-in_err-others.result c.from_residual-in_err-others.ensures.1 in
    rw (p.1, p.2) (bind_others_fails c.args.tokens.now c.args.at c.args.depth c.in_ok-bind.bind c.in_ok-bind.ensures.reads.0 c.in_ok-bind.ensures.reads.1 c.in_ok-first.first c.in_ok-first.behind c.in_ok-first.ensures.after c.in_ok-first.ensures.inside c.in_ok-first.ensures.settles (omega (arith, c.in_ok-first.ensures.inside)) c.in_err-others.field-0.0 c.in_err-others.ensures)

pub returns-in_err-semicolon : goal.returns-in_err-semicolon
returns-in_err-semicolon c =
    let p = err_from_is_err_and c.from_residual-in_err-semicolon.result c.from_residual-in_err-semicolon.ensures.1 in
    rw (p.1, p.2) (bind_semicolon_fails c.args.tokens.now c.args.at c.args.depth c.in_ok-bind.bind c.in_ok-bind.ensures.reads.0 c.in_ok-bind.ensures.reads.1 c.in_ok-first.first c.in_ok-first.behind c.in_ok-first.ensures.after c.in_ok-first.ensures.inside c.in_ok-first.ensures.settles (view_other_ends c.in_ok-others.others) c.in_ok-others.after c.in_ok-others.ensures.after c.in_ok-others.ensures.inside c.in_ok-others.ensures.settles c.in_err-semicolon.field-0.0 (omega (arith, c.in_ok-others.ensures.inside)) c.in_err-semicolon.ensures.reads)

pub returns : goal.returns
returns c = record {
  settles = bind_given c.args.tokens.now c.args.at c.args.depth c.in_ok-bind.bind c.in_ok-bind.ensures.reads.0 c.in_ok-bind.ensures.reads.1 c.in_ok-first.first c.in_ok-first.behind c.in_ok-first.ensures.after c.in_ok-first.ensures.inside c.in_ok-first.ensures.settles (view_other_ends c.in_ok-others.others) c.in_ok-others.after c.in_ok-others.ensures.after c.in_ok-others.ensures.inside c.in_ok-others.ensures.settles c.in_ok-semicolon.semicolon c.in_ok-semicolon.ensures.reads.0 c.in_ok-semicolon.ensures.reads.1;
  after = omega (arith, c.in_ok-first.ensures.after, c.in_ok-others.ensures.after);
  inside = c.in_ok-semicolon.ensures.reads.1;
}
