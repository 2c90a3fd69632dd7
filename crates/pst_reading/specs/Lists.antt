-- Parts in a row, as a list.
use Rattle.std.specs.Prelude.{ℕ, if◌then◌else◌, Bool, List, [], ◌∷◌, ◌++◌, Option, Some, None}
use Rattle.pst_token.specs.declared.token.Token.{Token}
use Rattle.pst_reading.specs.Parser.{Parser, Done, followed_by, repeat_by}
use Rattle.pst_reading.specs.Gives.{Family}

-- one part more, where the next token says that one begins
abbrev pub list_step : {A : Type 0} → (Option Token → Bool) → Parser A → List A → Option Token → Option (Parser (List A))
list_step begins part list next = if begins next then Some (followed_by part (λ x. Done (list ++ x ∷ []))) else None

abbrev pub list_by : {A : Type 0} → (Option Token → Bool) → Parser A → ℕ → Parser (List A)
list_by begins part turns = repeat_by (list_step begins part) turns []

-- the same for each bound, with as many turns as it allows
abbrev pub listed : {A : Type 0} → (Option Token → Bool) → Family A → Family (List A)
listed begins part size prefixes = list_by begins (part size prefixes) size
