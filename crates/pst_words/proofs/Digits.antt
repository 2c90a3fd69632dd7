-- Decimal digits.
use Rattle.std.proofs.Common.{rules, arith, sym, subst, refl, ap, zero, ◌∙◌, ◌≡◌, ◌^◌, ◌<◌, ◌≤◌, ℕ, suc, List, [], ◌∷◌, true, decimal, length, get_or, ◌+◌, ◌-◌, ◌*◌, drop}
use Rattle.std.proofs.lemmas.Str.Parse.{IsNumeralModel, numerals_by_fold}
use Rattle.std.proofs.Math.Seq.{drop-cons}
use Rattle.std.proofs.lemmas.Fmt.{decimal_injective, decimal-digits_value, decimal_nonempty, digits_decimal, digits_value-decimal, first_decimal, decimal_digit}
use Rattle.std.specs.Char.{is_ascii_digit}
use Rattle.std.specs.List.{list_all}
use Rattle.pst_words.specs.Numerals.{IsPlain, value_behind}

-- digits behind a number only make it larger
pub grows : (n : ℕ) (cs : List ℕ) → n ≤ value_behind n cs
grows n [] = omega arith
grows n (c ∷ cs) = let next : 10 * n + (c - 48) ≤ value_behind (10 * n + (c - 48)) cs = grows (10 * n + (c - 48)) cs in omega (arith, next)

pub numerals : IsNumeralModel (λ ds. list_all is_ascii_digit ds ≡ true) (value_behind 0)
numerals = numerals_by_fold _ (search rules) value_behind (search rules)

-- the next digit
pub steps : (n i : ℕ) (text : List ℕ) → i < length text → value_behind n (drop i text) ≡ value_behind (10 * n + (get_or text i 0 - 48)) (drop (i + 1) text)
steps n i text h = let next : i + 1 ≡ suc i = omega arith in rw (drop-cons text i 0 h, next) refl

-- where the digits so far and the next one are too many, all are
pub overflows : (n i bound : ℕ) (text : List ℕ) → i < length text → value_behind n (drop i text) ≡ value_behind 0 text → bound ≤ 10 * n + (get_or text i 0 - 48) → bound ≤ value_behind 0 text
overflows n i bound text h same large =
    let more : 10 * n + (get_or text i 0 - 48) ≤ value_behind (10 * n + (get_or text i 0 - 48)) (drop (i + 1) text) = grows (10 * n + (get_or text i 0 - 48)) (drop (i + 1) text) in
    let step : value_behind n (drop i text) ≡ value_behind (10 * n + (get_or text i 0 - 48)) (drop (i + 1) text) = steps n i text h in
    omega (arith, more, step, same, large)

-- a text is the spelling of one number alone
pub one_number : (n m : ℕ) (text : List ℕ) → n < 2 ^ 64 → m < 2 ^ 64 → text ≡ decimal n → text ≡ decimal m → n ≡ m
one_number n m text small below e f = decimal_injective n m small below (sym e ∙ f)

-- digits without a leading zero are the spelling of their number
pub plain_is_decimal : (text : List ℕ) → IsPlain text → value_behind 0 text < 2 ^ 64 → text ≡ decimal (value_behind 0 text)
plain_is_decimal text p small = sym (decimal-digits_value numerals text p.digits p.some p.first small)

-- and a spelling is such digits
pub decimal_is_plain : (n : ℕ) (text : List ℕ) → n < 2 ^ 64 → text ≡ decimal n → IsPlain text
decimal_is_plain n text small e = record {
  some = subst (λ t. 0 < length t) (sym e) (decimal_nonempty n small);
  first = by_number n small e;
  digits = subst (λ t. list_all is_ascii_digit t ≡ true) (sym e) (digits_decimal numerals n small);
}
  where
    by_number : (k : ℕ) → k < 2 ^ 64 → text ≡ decimal k → get_or text 0 0 ≡ 48 → length text ≡ 1
    by_number zero below f z = ap length f ∙ ap length (decimal_digit 0 (omega arith))
    by_number (suc k) below f z =
        let high : 48 < get_or (decimal (suc k)) 0 0 = first_decimal (suc k) (omega arith) below in
        let is : get_or (decimal (suc k)) 0 0 ≡ 48 = ap (λ t. get_or t 0 0) (sym f) ∙ z in
        absurd (omega (arith, high, is))

pub decimal_value : (n : ℕ) (text : List ℕ) → n < 2 ^ 64 → text ≡ decimal n → value_behind 0 text ≡ n
decimal_value n text small e = rw e (digits_value-decimal numerals n small)
