-- Parsers: what is done with the next token, and what is to be parsed after it.
use Rattle.std.specs.Prelude.{ℕ, zero, suc, Bool, true, false, if◌then◌else◌, List, [], ◌∷◌, Option, Some, None}
use Rattle.pst_token.specs.declared.kind.Kind.{Kind}
use Rattle.pst_base.specs.declared.position.Place.{Place}
use Rattle.pst_token.specs.declared.token.Token.{Token}
use Rattle.pst_ast.specs.declared.leaf.Name.{Name}
use Rattle.pst_ast.specs.Limits.{Count}
use Rattle.pst_reading.specs.Kinds.{is_mark, is_name, next_is}

pub data Parser (A : Type 0) : Type 0 where
  -- the value
  Done : (value : A) → Parser A
  -- no value goes on with the next token
  Wrong : Parser A
  -- more parts within one another, or more turns of a loop, than were allowed for
  Spent : Parser A
  -- the next token decides, where there is one
  Look : (choose : Option Token → Parser A) → Parser A
  -- the next token is taken, and counts so towards the limits
  Take : (count : Count) → (go_on : Token → Parser A) → Parser A

-- one parser after another
abbrev pub followed_by : {A B : Type 0} → Parser A → (A → Parser B) → Parser B
followed_by (Done a) f = f a
followed_by Wrong f = Wrong
followed_by Spent f = Spent
followed_by (Look choose) f = Look (λ next. followed_by (choose next) f)
followed_by (Take count go_on) f = Take count (λ token. followed_by (go_on token) f)

infixl 10 ◌>>=◌
abbrev pub ◌>>=◌ : {A B : Type 0} → Parser A → (A → Parser B) → Parser B
p >>= f = followed_by p f

-- what a parser makes of tokens
pub data Outcome (A : Type 0) : Type 0 where
  -- a value, and the tokens behind it
  Took : (value : A) → (rest : List Token) → Outcome A
  -- no value goes on with the first of these tokens
  Refused : (rest : List Token) → Outcome A
  -- the first of these tokens breaks a limit
  TooDeep : (rest : List Token) → Outcome A
  Unread : (rest : List Token) → Outcome A

abbrev pub next : List Token → Option Token
next [] = None
next (token ∷ tokens) = Some token

-- without a token the next one can't be taken
abbrev pub run : {A : Type 0} → (Count → Bool) → Parser A → List Token → Outcome A
run over (Done a) tokens = Took a tokens
run over Wrong tokens = Refused tokens
run over Spent tokens = Unread tokens
run over (Look choose) tokens = run over (choose (next tokens)) tokens
run over (Take count go_on) [] = Refused []
run over (Take count go_on) (token ∷ tokens) = if over count then TooDeep (token ∷ tokens) else run over (go_on token) tokens

-- the same, without limits
abbrev pub read : {A : Type 0} → Parser A → List Token → Outcome A
read p tokens = run (λ count. false) p tokens

-- what the tokens that a parser takes count towards the limits
abbrev pub counts_taken : {A : Type 0} → Parser A → List Token → List Count
counts_taken (Done a) tokens = []
counts_taken Wrong tokens = []
counts_taken Spent tokens = []
counts_taken (Look choose) tokens = counts_taken (choose (next tokens)) tokens
counts_taken (Take count go_on) [] = []
counts_taken (Take count go_on) (token ∷ tokens) = count ∷ counts_taken (go_on token) tokens

-- what follows an outcome
abbrev pub and_then : {A B : Type 0} → Outcome A → (A → List Token → Outcome B) → Outcome B
and_then (Took a rest) f = f a rest
and_then (Refused rest) f = Refused rest
and_then (TooDeep rest) f = TooDeep rest
and_then (Unread rest) f = Unread rest

-- a mark or reserved word, by its place
abbrev pub mark_by : Kind → Count → Parser Place
mark_by kind count = Look (λ next. if next_is (is_mark kind) next then Take count (λ token. Done token.place) else Wrong)

-- a name
abbrev pub name_by : Count → Parser Name
name_by count = Look (λ next. if next_is is_name next then Take count (λ token. Done (record { id = token.name; place = token.place })) else Wrong)

-- a part where the next token is the mark that begins it, and else another
abbrev pub if_mark : {A : Type 0} → Kind → Parser A → Parser A → Parser A
if_mark kind part other = Look (λ next. if next_is (is_mark kind) next then part else other)

-- a part and then what goes on with it, where there is a part
abbrev pub turn : {A : Type 0} → Option (Parser A) → A → (A → Parser A) → Parser A
turn None a go_on = Done a
turn (Some part) a go_on = followed_by part go_on

-- parts in a row: one begins where step has a parser for the next token; turns bounds their number
abbrev pub repeat_by : {A : Type 0} → (A → Option Token → Option (Parser A)) → ℕ → A → Parser A
repeat_by step zero a = Spent
repeat_by step (suc turns) a = Look (λ next. turn (step a next) a (repeat_by step turns))
