-- Decimal digits.
use Rattle.std.specs.Prelude.{◌≡◌, ℕ, ◌+◌, ◌*◌, ◌-◌, ◌<◌, List, [], ◌∷◌, length, get_or, true}
use Rattle.std.specs.Char.{is_ascii_digit}
use Rattle.std.specs.List.{list_all}

-- the number that digits spell behind another number
abbrev pub value_behind : ℕ → List ℕ → ℕ
value_behind n [] = n
value_behind n (c ∷ cs) = value_behind (10 * n + (c - 48)) cs

-- digits, at least one, and no leading zero but that of `0` itself
pub record IsPlain (text : List ℕ) : Type 0 where
  pub some : 0 < length text
  pub first : get_or text 0 0 ≡ 48 → length text ≡ 1
  pub digits : list_all is_ascii_digit text ≡ true
