-- The look-up of a reserved word or a mark by its spelling.
use Rattle.std.specs.Prelude.{ℕ, List, [], ◌∷◌, length, Option, ◌==◌, if◌then◌else◌}
use Rattle.std.specs.List.{find}
use Rattle.std.specs.Str.{bytes_eq}
use Rattle.pst_token.specs.declared.kind.Kind.{Kind}
use Rattle.pst_token.specs.declared.kind.Kind.TheVariants.{Abstract, Action, Activity, Bind, Bit, Body, Bool, Buffer, Component, Constraint, Default, Do, Else, Enum, Exec, False, Foreach, Function, If, Import, In, Input, Int, JoinBranch, JoinFirst, JoinNone, JoinSelect, Lock, Match, Output, Parallel, Pool, Rand, Repeat, Resource, Schedule, Select, Sequence, Share, State, Stream, Target, True, Unique, Void, With, LeftBrace, RightBrace, LeftParenthesis, RightParenthesis, LeftBracket, RightBracket, Semicolon, Comma, Dot, DotDot, Colon, ColonColon, Equal, EqualEqual, NotEqual, Less, LessEqual, Greater, GreaterEqual, LessLess, GreaterGreater, Plus, Minus, Star, Slash, Percent, And, AndAnd, Or, OrOr, Caret, Not, Tilde, Arrow}
use Rattle.pst_token.specs.Spelling.{spelling_of}

-- the reserved words and marks whose spelling has this length
abbrev pub kinds_of_length : ℕ → List Kind
kinds_of_length n =
    if n == 1 then Semicolon ∷ LeftParenthesis ∷ RightParenthesis ∷ LeftBrace ∷ RightBrace ∷ Dot ∷ Comma ∷ Equal ∷ Colon ∷ LeftBracket ∷ RightBracket ∷ Star ∷ Plus ∷ Minus ∷ Less ∷ Greater ∷ Slash ∷ Percent ∷ And ∷ Or ∷ Not ∷ Caret ∷ Tilde ∷ []
    else (if n == 2 then DotDot ∷ ColonColon ∷ EqualEqual ∷ NotEqual ∷ LessEqual ∷ GreaterEqual ∷ LessLess ∷ GreaterGreater ∷ AndAnd ∷ OrOr ∷ Arrow ∷ Do ∷ If ∷ In ∷ []
    else (if n == 3 then Bit ∷ Int ∷ []
    else (if n == 4 then Bind ∷ Body ∷ Bool ∷ Else ∷ Enum ∷ Exec ∷ Lock ∷ Pool ∷ Rand ∷ True ∷ Void ∷ With ∷ []
    else (if n == 5 then False ∷ Input ∷ Match ∷ Share ∷ State ∷ []
    else (if n == 6 then Action ∷ Buffer ∷ Import ∷ Output ∷ Repeat ∷ Select ∷ Stream ∷ Target ∷ Unique ∷ []
    else (if n == 7 then Default ∷ Foreach ∷ []
    else (if n == 8 then Abstract ∷ Activity ∷ Function ∷ Parallel ∷ Resource ∷ Schedule ∷ Sequence ∷ []
    else (if n == 9 then Component ∷ JoinNone ∷ []
    else (if n == 10 then Constraint ∷ JoinFirst ∷ []
    else (if n == 11 then JoinBranch ∷ JoinSelect ∷ []
    else []))))))))))

-- the reserved word or mark with this spelling
abbrev pub kind_of : List ℕ → Option Kind
kind_of text = find (λ kind. bytes_eq (spelling_of kind) text) (kinds_of_length (length text))
