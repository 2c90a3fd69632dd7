-- Parts that may be left out, and choices by what the next token is.
use Rattle.pst_reading.specs.Gives.{Family}
use Rattle.pst_reading.specs.Options.{option_by}
use Rattle.pst_reading.specs.Parser.{Parser, Look}
use Rattle.pst_token.specs.declared.token.Token.{Token}
use Rattle.std.specs.Prelude.{Bool, if◌then◌else◌, Option}

-- a part that may be left out, for each bound
abbrev pub optional : {A : Type 0} → (Option Token → Bool) → Family A → Family (Option A)
optional begins part size prefixes = option_by begins (part size prefixes)

-- one part where the next token begins it, and else another
abbrev pub if_next : {A : Type 0} → (Option Token → Bool) → Parser A → Parser A → Parser A
if_next begins part other = Look (λ next. if begins next then part else other)
