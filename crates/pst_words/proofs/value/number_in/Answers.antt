use Rattle.std.proofs.Common.{arith, sym, ap, ◌∙◌, ◌≤◌, ◌≡◌, ◌^◌, ◌<◌, ℕ, List, decimal, MatchOption, Option, Some, None}
use Rattle.pst_words.specs.Numerals.{IsPlain, value_behind}
use Rattle.pst_words.proofs.Digits.{plain_is_decimal, decimal_is_plain, decimal_value}
use Rattle.pst_words.proofs.value.number_in.Goals as goal

by_value : (text : List ℕ) (r : Option ℕ) → IsPlain text → MatchOption r (2 ^ 64 ≤ value_behind 0 text) (λ n. (n ≡ value_behind 0 text) × (n < 2 ^ 64))
    → MatchOption r ((n : ℕ) → n < 2 ^ 64 → text ≡ decimal n → ⊥) (λ n. (text ≡ decimal n) × (n < 2 ^ 64))
by_value text None p large = λ n small e. let v : value_behind 0 text ≡ n = decimal_value n text small e in absurd (omega (arith, large, small, v))
by_value text (Some n) p is = (plain_is_decimal text p (omega (arith, is.0, is.1)) ∙ ap decimal (sym is.0), is.1)

pub returns-then-is_plain : goal.returns-then-is_plain
returns-then-is_plain c = by_value c.args.text.now c.value_of.result c.if-is_plain.ensures c.value_of.ensures

pub returns-else-is_plain : goal.returns-else-is_plain
returns-else-is_plain c = λ n small e. c.if-is_plain.ensures (decimal_is_plain n c.args.text.now small e)
