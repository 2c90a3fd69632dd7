-- Parts that may be left out, and parts in a row as a row of the tree.
use Rattle.std.specs.Prelude.{if◌then◌else◌, Bool, List, Option, Some, None}
use Rattle.pst_token.specs.declared.token.Token.{Token}
use Rattle.pst_reading.specs.Parser.{Parser, Done, Look, followed_by}

-- a part where the next token says that it begins, and else none
abbrev pub option_by : {A : Type 0} → (Option Token → Bool) → Parser A → Parser (Option A)
option_by begins part = Look (λ next. if begins next then followed_by part (λ x. Done (Some x)) else Done None)

-- a list of parts, made a row
abbrev pub row_by : {A R : Type 0} → (List A → R) → Parser (List A) → Parser R
row_by row list = followed_by list (λ xs. Done (row xs))
