-- Sums, products and quotients of whole numbers, which are nothing where the result is no value.
use Rattle.std.specs.Prelude.{ℤ, pos, ◌+ℤ◌, ◌-ℤ◌, ◌*ℤ◌, neg_ℤ, int_div, int_rem, Option, None, if◌then◌else◌}
use Rattle.std.specs.Ordering.{int_eq}
use Rattle.pst_num.specs.Range.{in_range}

-- a + b
abbrev pub sum_of : ℤ → ℤ → Option ℤ
sum_of a b = in_range (a +ℤ b)

-- a - b
abbrev pub difference_of : ℤ → ℤ → Option ℤ
difference_of a b = in_range (a -ℤ b)

-- a * b
abbrev pub product_of : ℤ → ℤ → Option ℤ
product_of a b = in_range (a *ℤ b)

-- a / b, rounded towards 0
abbrev pub quotient_of : ℤ → ℤ → Option ℤ
quotient_of a b = if int_eq b (pos 0) then None else in_range (int_div a b)

-- what a / b leaves, with the sign of a
abbrev pub remainder_of : ℤ → ℤ → Option ℤ
remainder_of a b = if int_eq b (pos 0) then None else in_range (int_rem a b)

-- -a
abbrev pub negation_of : ℤ → Option ℤ
negation_of a = in_range (neg_ℤ a)
