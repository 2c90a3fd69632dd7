-- Each reserved word is a word, and each mark has one or two bytes that begin no word and no blank.
use Rattle.std.proofs.Common.{◌≡◌, true, ◌||◌, refl}
use Rattle.pst_token.specs.declared.kind.Kind.{Kind}
use Rattle.pst_token.specs.declared.kind.Kind.TheVariants.{Name, Number, End, Abstract, Action, Activity, Bind, Bit, Body, Bool, Buffer, Component, Constraint, Default, Do, Else, Enum, Exec, False, Foreach, Function, If, Import, In, Input, Int, JoinBranch, JoinFirst, JoinNone, JoinSelect, Lock, Match, Output, Parallel, Pool, Rand, Repeat, Resource, Schedule, Select, Sequence, Share, State, Stream, Target, True, Unique, Void, With, LeftBrace, RightBrace, LeftParenthesis, RightParenthesis, LeftBracket, RightBracket, Semicolon, Comma, Dot, DotDot, Colon, ColonColon, Equal, EqualEqual, NotEqual, Less, LessEqual, Greater, GreaterEqual, LessLess, GreaterGreater, Plus, Minus, Star, Slash, Percent, And, AndAnd, Or, OrOr, Caret, Not, Tilde, Arrow}
use Rattle.pst_token.specs.Spelling.{spelling_of}
use Rattle.pst_token.specs.Lexemes.{is_word}
use Rattle.pst_token.proofs.Bytes.{is_mark, is_nothing}

pub spelling_shape : (kind : Kind) → ((is_nothing (spelling_of kind) || is_word (spelling_of kind)) || is_mark (spelling_of kind)) ≡ true
spelling_shape Name = refl
spelling_shape Number = refl
spelling_shape End = refl
spelling_shape Abstract = refl
spelling_shape Action = refl
spelling_shape Activity = refl
spelling_shape Bind = refl
spelling_shape Bit = refl
spelling_shape Body = refl
spelling_shape Bool = refl
spelling_shape Buffer = refl
spelling_shape Component = refl
spelling_shape Constraint = refl
spelling_shape Default = refl
spelling_shape Do = refl
spelling_shape Else = refl
spelling_shape Enum = refl
spelling_shape Exec = refl
spelling_shape False = refl
spelling_shape Foreach = refl
spelling_shape Function = refl
spelling_shape If = refl
spelling_shape Import = refl
spelling_shape In = refl
spelling_shape Input = refl
spelling_shape Int = refl
spelling_shape JoinBranch = refl
spelling_shape JoinFirst = refl
spelling_shape JoinNone = refl
spelling_shape JoinSelect = refl
spelling_shape Lock = refl
spelling_shape Match = refl
spelling_shape Output = refl
spelling_shape Parallel = refl
spelling_shape Pool = refl
spelling_shape Rand = refl
spelling_shape Repeat = refl
spelling_shape Resource = refl
spelling_shape Schedule = refl
spelling_shape Select = refl
spelling_shape Sequence = refl
spelling_shape Share = refl
spelling_shape State = refl
spelling_shape Stream = refl
spelling_shape Target = refl
spelling_shape True = refl
spelling_shape Unique = refl
spelling_shape Void = refl
spelling_shape With = refl
spelling_shape LeftBrace = refl
spelling_shape RightBrace = refl
spelling_shape LeftParenthesis = refl
spelling_shape RightParenthesis = refl
spelling_shape LeftBracket = refl
spelling_shape RightBracket = refl
spelling_shape Semicolon = refl
spelling_shape Comma = refl
spelling_shape Dot = refl
spelling_shape DotDot = refl
spelling_shape Colon = refl
spelling_shape ColonColon = refl
spelling_shape Equal = refl
spelling_shape EqualEqual = refl
spelling_shape NotEqual = refl
spelling_shape Less = refl
spelling_shape LessEqual = refl
spelling_shape Greater = refl
spelling_shape GreaterEqual = refl
spelling_shape LessLess = refl
spelling_shape GreaterGreater = refl
spelling_shape Plus = refl
spelling_shape Minus = refl
spelling_shape Star = refl
spelling_shape Slash = refl
spelling_shape Percent = refl
spelling_shape And = refl
spelling_shape AndAnd = refl
spelling_shape Or = refl
spelling_shape OrOr = refl
spelling_shape Caret = refl
spelling_shape Not = refl
spelling_shape Tilde = refl
spelling_shape Arrow = refl
