use Rattle.std.proofs.Common.{arith, rules, ◌-◌}
use Rattle.std.proofs.lemmas.Result.{err_from_is_err_and}
use Rattle.pst_token.specs.declared.kind.Kind.TheVariants as kind
use Rattle.pst_reading.proofs.Optional.{option_absent, option_present, option_fails}
use Rattle.pst_parse_expr.specs.Constraints.{is_at}
use Rattle.pst_parse_statement.specs.ActivityFamilies.{sequence_word_family}
use Rattle.pst_parse_statement.proofs.words.maybe_sequence_word.Goals as goal

pub returns-then-not-is : goal.returns-then-not-is
returns-then-not-is c = record {
  settles = option_absent c.args.tokens.now c.args.at c.args.at (is_at kind.Sequence) (sequence_word_family c.args.depth) (search rules);
  after = omega arith;
  inside = c.requires.inside;
}

pub returns-in_err-word : goal.returns-in_err-word
returns-in_err-word c =
    let p = err_from_is_err_and c.from_residual.result c.from_residual.ensures.1 in
    rw (p.1, p.2) (option_fails c.args.tokens.now c.args.at c.args.at (is_at kind.Sequence) (sequence_word_family c.args.depth) (search rules) c.in_err-word.field-0.0 c.in_err-word.ensures)

pub returns : goal.returns
returns c = record {
  settles = option_present c.args.tokens.now c.args.at c.args.at (is_at kind.Sequence) (sequence_word_family c.args.depth) (search rules) c.in_ok-word.word c.in_ok-word.after c.in_ok-word.ensures.settles;
  after = omega (arith, c.in_ok-word.ensures.after);
  inside = c.in_ok-word.ensures.inside;
}
