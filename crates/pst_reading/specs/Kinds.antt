-- Kinds of tokens by number, and tokens that are marks or reserved words, names or numbers.
use Rattle.std.specs.Prelude.{ℕ, ◌&&◌, ◌==◌, pos, Bool, false, Option, Some, None}
use Rattle.std.specs.Ordering.{int_eq}
use Rattle.pst_token.specs.declared.kind.Kind.{Kind}
use Rattle.pst_token.specs.declared.kind.Kind.TheVariants as kind
use Rattle.pst_token.specs.declared.token.Token.{Token}

-- the number of a kind, in order of declaration
abbrev pub number_of : Kind → ℕ
number_of kind.Name = 0
number_of kind.Number = 1
number_of kind.End = 2
number_of kind.Abstract = 3
number_of kind.Action = 4
number_of kind.Activity = 5
number_of kind.Bind = 6
number_of kind.Bit = 7
number_of kind.Body = 8
number_of kind.Bool = 9
number_of kind.Buffer = 10
number_of kind.Component = 11
number_of kind.Constraint = 12
number_of kind.Default = 13
number_of kind.Do = 14
number_of kind.Else = 15
number_of kind.Enum = 16
number_of kind.Exec = 17
number_of kind.False = 18
number_of kind.Foreach = 19
number_of kind.Function = 20
number_of kind.If = 21
number_of kind.Import = 22
number_of kind.In = 23
number_of kind.Input = 24
number_of kind.Int = 25
number_of kind.JoinBranch = 26
number_of kind.JoinFirst = 27
number_of kind.JoinNone = 28
number_of kind.JoinSelect = 29
number_of kind.Lock = 30
number_of kind.Match = 31
number_of kind.Output = 32
number_of kind.Parallel = 33
number_of kind.Pool = 34
number_of kind.Rand = 35
number_of kind.Repeat = 36
number_of kind.Resource = 37
number_of kind.Schedule = 38
number_of kind.Select = 39
number_of kind.Sequence = 40
number_of kind.Share = 41
number_of kind.State = 42
number_of kind.Stream = 43
number_of kind.Target = 44
number_of kind.True = 45
number_of kind.Unique = 46
number_of kind.Void = 47
number_of kind.With = 48
number_of kind.LeftBrace = 49
number_of kind.RightBrace = 50
number_of kind.LeftParenthesis = 51
number_of kind.RightParenthesis = 52
number_of kind.LeftBracket = 53
number_of kind.RightBracket = 54
number_of kind.Semicolon = 55
number_of kind.Comma = 56
number_of kind.Dot = 57
number_of kind.DotDot = 58
number_of kind.Colon = 59
number_of kind.ColonColon = 60
number_of kind.Equal = 61
number_of kind.EqualEqual = 62
number_of kind.NotEqual = 63
number_of kind.Less = 64
number_of kind.LessEqual = 65
number_of kind.Greater = 66
number_of kind.GreaterEqual = 67
number_of kind.LessLess = 68
number_of kind.GreaterGreater = 69
number_of kind.Plus = 70
number_of kind.Minus = 71
number_of kind.Star = 72
number_of kind.Slash = 73
number_of kind.Percent = 74
number_of kind.And = 75
number_of kind.AndAnd = 76
number_of kind.Or = 77
number_of kind.OrOr = 78
number_of kind.Caret = 79
number_of kind.Not = 80
number_of kind.Tilde = 81
number_of kind.Arrow = 82

-- whether a token is this mark or reserved word, with nothing else in it
unfoldable pub is_mark : Kind → Token → Bool
is_mark wanted token = number_of token.kind == number_of wanted && (token.name.0 == 0 && int_eq token.number (pos 0))

unfoldable pub is_name : Token → Bool
is_name token = number_of token.kind == number_of kind.Name && int_eq token.number (pos 0)

unfoldable pub is_number : Token → Bool
is_number token = number_of token.kind == number_of kind.Number && token.name.0 == 0

-- the same of the token that comes next, where there is one
abbrev pub next_is : (Token → Bool) → Option Token → Bool
next_is test None = false
next_is test (Some token) = test token
