use Rattle.std.proofs.Common.{◌≡◌, List, ℕ, Bool, true, false, ◌^◌, ◌<◌, ◌≤◌, MatchOption, drop, ap, sym, ◌∙◌, subst, pos, ℤ}
use Rattle.std.specs.Str.Parse.{digits_value, IsNumeral}
use Rattle.pst_lexer.proofs.Numbers.{decimal_numeral, hexadecimal_numeral, digits_of, hexadecimal_number, decimal_number, tells_number}
use Rattle.pst_lexer.proofs.words.number.Goals as goal

pub value_of-requires-clause-numeral : goal.value_of-requires-clause-numeral
value_of-requires-clause-numeral c =
    subst (IsNumeral 16) (sym (digits_of c.args.word.now)) (hexadecimal_numeral c.args.word.now (sym c.is_hexadecimal.ensures ∙ c.if-is_hexadecimal.true))

pub value_of-requires-then-is_decimal-clause-numeral : goal.value_of-requires-then-is_decimal-clause-numeral
value_of-requires-then-is_decimal-clause-numeral c = decimal_numeral c.args.word.now (sym c.is_decimal.ensures ∙ c.if-is_decimal.true)

pub returns-then-is_hexadecimal : goal.returns-then-is_hexadecimal
returns-then-is_hexadecimal c =
    tells_number c.args.word.now (digits_value 16 (drop 2 c.args.word.now)) c.value_of.result c.number_found.result
    (hexadecimal_number c.args.word.now (sym c.is_hexadecimal.ensures ∙ c.if-is_hexadecimal.true))
    (subst (λ (ds : List ℕ). MatchOption c.value_of.result (2 ^ 63 ≤ digits_value 16 ds) (λ v. (v ≡ pos (digits_value 16 ds)) × (digits_value 16 ds < 2 ^ 63))) (digits_of c.args.word.now) c.value_of.ensures)
    c.number_found.ensures

pub returns-then-is_decimal : goal.returns-then-is_decimal
returns-then-is_decimal c =
    tells_number c.args.word.now (digits_value 10 c.args.word.now) c.value_of-then-is_decimal.result c.number_found-then-is_decimal.result
    (decimal_number c.args.word.now (sym c.is_hexadecimal.ensures ∙ c.if-is_hexadecimal.false) (sym c.is_decimal.ensures ∙ c.if-is_decimal.true))
    c.value_of-then-is_decimal.ensures
    c.number_found-then-is_decimal.ensures
