use Rattle.std.proofs.Common.{arith, ap, sym, ◌∙◌, ◌≤◌, length}
use Rattle.std.proofs.lemmas.List.{drop_all}
use Rattle.pst_words.specs.Numerals.{value_behind}
use Rattle.pst_words.proofs.Digits.{overflows}
use Rattle.pst_words.proofs.value.value_of.Goals as goal

pub returns-in_default : goal.returns-in_default
returns-in_default c = overflows c.loop-i.number c.loop-i.i _ c.args.text.now (omega (arith, c.loop-i-test.true)) c.loop-i.invariant.0 (omega (arith, c.in_default.ensures))

pub returns-in_default-checked_add : goal.returns-in_default-checked_add
returns-in_default-checked_add c = overflows c.loop-i.number c.loop-i.i _ c.args.text.now (omega (arith, c.loop-i-test.true)) c.loop-i.invariant.0 (grind (arith, c.in_default-checked_add.ensures, c.in-Some.ensures, c.from.ensures))

pub returns : goal.returns
returns c =
    let over : length c.args.text.now ≤ c.loop-i.i = omega (arith, c.loop-i-test.false) in
    (ap (value_behind c.loop-i.number) (sym (drop_all c.loop-i.i c.args.text.now over)) ∙ c.loop-i.invariant.0, c.loop-i.invariant.1)
