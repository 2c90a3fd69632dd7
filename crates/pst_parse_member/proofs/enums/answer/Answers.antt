use Rattle.pst_ast.specs.SharedView.{view_plain}
use Rattle.pst_parse_member.proofs.enums.answer.Goals as goal
use Rattle.pst_parse_member.specs.Families.{answer_family}
use Rattle.pst_parse_part.specs.Families.{plain_family}
use Rattle.pst_reading.proofs.Reaching.{begin, step, choose, ends, fails}
use Rattle.pst_token.specs.declared.kind.Kind.TheVariants as kind
use Rattle.std.proofs.Common.{arith, rules, false}
use Rattle.std.proofs.lemmas.Result.{err_from_is_err_and}

pub returns-in_err-plain : goal.returns-in_err-plain
returns-in_err-plain c =
    let p = err_from_is_err_and c.from_residual-in_err-plain.result c.from_residual-in_err-plain.ensures.1 in
    rw (p.1, p.2) (fails (answer_family c.args.depth) c.args.tokens.now c.args.at c.args.at (plain_family c.args.depth) _ c.args.at c.args.at c.in_err-plain.field-0.0 (omega arith) c.in_err-plain.ensures (choose (answer_family c.args.depth) c.args.tokens.now c.args.at c.args.at kind.Void _ _ c.args.at false (search rules) (begin (answer_family c.args.depth) c.args.tokens.now c.args.at c.args.at)))

pub returns : goal.returns
returns c = record { settles = ends (answer_family c.args.depth) c.args.tokens.now c.args.at c.args.at _ c.in_ok-plain.after (step (answer_family c.args.depth) c.args.tokens.now c.args.at c.args.at (plain_family c.args.depth) _ c.args.at c.args.at c.in_ok-plain.after (view_plain c.in_ok-plain.plain) (omega arith) (omega (arith, c.in_ok-plain.ensures.after)) c.in_ok-plain.ensures.settles (choose (answer_family c.args.depth) c.args.tokens.now c.args.at c.args.at kind.Void _ _ c.args.at false (search rules) (begin (answer_family c.args.depth) c.args.tokens.now c.args.at c.args.at))); after = omega (arith, c.in_ok-plain.ensures.after); inside = c.in_ok-plain.ensures.inside }
