-- The part that begins the spelling of a reserved word or a mark.
use Rattle.std.proofs.Common.{◌≡◌, ◌≢◌, [], Some, refl}
use Rattle.pst_token.specs.declared.kind.Kind.{Kind}
use Rattle.pst_token.specs.declared.kind.Kind.TheVariants.{Name, Number, End, Abstract, Action, Activity, Bind, Bit, Body, Bool, Buffer, Component, Constraint, Default, Do, Else, Enum, Exec, False, Foreach, Function, If, Import, In, Input, Int, JoinBranch, JoinFirst, JoinNone, JoinSelect, Lock, Match, Output, Parallel, Pool, Rand, Repeat, Resource, Schedule, Select, Sequence, Share, State, Stream, Target, True, Unique, Void, With, LeftBrace, RightBrace, LeftParenthesis, RightParenthesis, LeftBracket, RightBracket, Semicolon, Comma, Dot, DotDot, Colon, ColonColon, Equal, EqualEqual, NotEqual, Less, LessEqual, Greater, GreaterEqual, LessLess, GreaterGreater, Plus, Minus, Star, Slash, Percent, And, AndAnd, Or, OrOr, Caret, Not, Tilde, Arrow}
use Rattle.pst_token.specs.Spelling.{spelling_of}
use Rattle.pst_token.specs.Lexemes.{fixed}
use Rattle.pst_token.specs.Parts.{lexeme}
use Rattle.pst_token.specs.Next.{next, word_part, mark_part}

pub next-spelling_of : (k : Kind) → spelling_of k ≢ [] → next (spelling_of k) ≡ Some (lexeme (fixed k))
unfolding next word_part mark_part
next-spelling_of Name some = absurd (some refl)
next-spelling_of Number some = absurd (some refl)
next-spelling_of End some = absurd (some refl)
next-spelling_of Abstract some = refl
next-spelling_of Action some = refl
next-spelling_of Activity some = refl
next-spelling_of Bind some = refl
next-spelling_of Bit some = refl
next-spelling_of Body some = refl
next-spelling_of Bool some = refl
next-spelling_of Buffer some = refl
next-spelling_of Component some = refl
next-spelling_of Constraint some = refl
next-spelling_of Default some = refl
next-spelling_of Do some = refl
next-spelling_of Else some = refl
next-spelling_of Enum some = refl
next-spelling_of Exec some = refl
next-spelling_of False some = refl
next-spelling_of Foreach some = refl
next-spelling_of Function some = refl
next-spelling_of If some = refl
next-spelling_of Import some = refl
next-spelling_of In some = refl
next-spelling_of Input some = refl
next-spelling_of Int some = refl
next-spelling_of JoinBranch some = refl
next-spelling_of JoinFirst some = refl
next-spelling_of JoinNone some = refl
next-spelling_of JoinSelect some = refl
next-spelling_of Lock some = refl
next-spelling_of Match some = refl
next-spelling_of Output some = refl
next-spelling_of Parallel some = refl
next-spelling_of Pool some = refl
next-spelling_of Rand some = refl
next-spelling_of Repeat some = refl
next-spelling_of Resource some = refl
next-spelling_of Schedule some = refl
next-spelling_of Select some = refl
next-spelling_of Sequence some = refl
next-spelling_of Share some = refl
next-spelling_of State some = refl
next-spelling_of Stream some = refl
next-spelling_of Target some = refl
next-spelling_of True some = refl
next-spelling_of Unique some = refl
next-spelling_of Void some = refl
next-spelling_of With some = refl
next-spelling_of LeftBrace some = refl
next-spelling_of RightBrace some = refl
next-spelling_of LeftParenthesis some = refl
next-spelling_of RightParenthesis some = refl
next-spelling_of LeftBracket some = refl
next-spelling_of RightBracket some = refl
next-spelling_of Semicolon some = refl
next-spelling_of Comma some = refl
next-spelling_of Dot some = refl
next-spelling_of DotDot some = refl
next-spelling_of Colon some = refl
next-spelling_of ColonColon some = refl
next-spelling_of Equal some = refl
next-spelling_of EqualEqual some = refl
next-spelling_of NotEqual some = refl
next-spelling_of Less some = refl
next-spelling_of LessEqual some = refl
next-spelling_of Greater some = refl
next-spelling_of GreaterEqual some = refl
next-spelling_of LessLess some = refl
next-spelling_of GreaterGreater some = refl
next-spelling_of Plus some = refl
next-spelling_of Minus some = refl
next-spelling_of Star some = refl
next-spelling_of Slash some = refl
next-spelling_of Percent some = refl
next-spelling_of And some = refl
next-spelling_of AndAnd some = refl
next-spelling_of Or some = refl
next-spelling_of OrOr some = refl
next-spelling_of Caret some = refl
next-spelling_of Not some = refl
next-spelling_of Tilde some = refl
next-spelling_of Arrow some = refl
