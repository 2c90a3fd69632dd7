-- A look at two tokens: where a name stands, the token behind it decides.
use Rattle.std.specs.Prelude.{Bool, ◌&&◌, if◌then◌else◌, List, [], ◌∷◌, Option, Some, None}
use Rattle.pst_token.specs.declared.kind.Kind.{Kind}
use Rattle.pst_token.specs.declared.token.Token.{Token}
use Rattle.pst_ast.specs.Limits.{Count}
use Rattle.pst_reading.specs.Kinds.{is_mark, is_name, next_is}
use Rattle.pst_reading.specs.Parser.{Parser, Done, Wrong, Spent, Look, Take, next, if_mark}

-- what is left of a parser behind a token that it takes
abbrev pub after : {A : Type 0} → Parser A → Token → Parser A
after (Done a) token = Done a
after Wrong token = Wrong
after Spent token = Spent
after (Look choose) token = after (choose (Some token)) token
after (Take count go_on) token = go_on token

-- where a name stands and then this mark, the first parser, and else the second; both take a name
abbrev pub if_name_then : {A : Type 0} → Kind → Count → Parser A → Parser A → Parser A
if_name_then k count p q = Look (λ next. if next_is is_name next then Take count (λ token. if_mark k (after p token) (after q token)) else q)

-- the second token, where there is one
abbrev pub second : List Token → Option Token
second [] = None
second (token ∷ tokens) = next tokens

-- whether a name stands first and then this mark
abbrev pub name_then : Kind → List Token → Bool
name_then k tokens = next_is is_name (next tokens) && next_is (is_mark k) (second tokens)
