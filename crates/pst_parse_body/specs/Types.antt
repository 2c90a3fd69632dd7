-- What a plain type begins with.
use Rattle.std.specs.Prelude.{Bool, ◌||◌, Option}
use Rattle.pst_token.specs.declared.kind.Kind.TheVariants as kind
use Rattle.pst_token.specs.declared.token.Token.{Token}
use Rattle.pst_reading.specs.Kinds.{is_mark, next_is}

-- whether the next token begins a plain type
abbrev pub begins_plain : Option Token → Bool
begins_plain next = next_is (is_mark kind.Int) next || (next_is (is_mark kind.Bit) next || next_is (is_mark kind.Bool) next)
