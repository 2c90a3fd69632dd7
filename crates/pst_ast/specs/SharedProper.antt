-- Trees that group as their tokens are read: shared.
use Rattle.pst_ast.specs.Marks.{OptionIs}
use Rattle.pst_ast.specs.ExpressionProper.{IsProperExpr, IsProperRanges}
use Rattle.pst_ast.specs.SharedTree.{NextExprTree, MakeNextExpr, NamesTree, MakeNames, PlainTree, PlainInt, PlainBit, PlainBool, WidthTree, MakeWidth, LowTree, MakeLow, TypeTree, TypePlain, TypeNamed, DomainTree, MakeDomain}

-- "," expr
abbrev pub IsProperNextExpr : NextExprTree → Type 0
IsProperNextExpr (MakeNextExpr comma_place expr) = IsProperExpr expr

-- NAME { "," NAME }
abbrev pub IsProperNames : NamesTree → Type 0
IsProperNames (MakeNames first rest) = Unit {0}

-- ":" expr
abbrev pub IsProperLow : LowTree → Type 0
IsProperLow (MakeLow colon_place expr) = IsProperExpr expr

-- width = "[" expr [ ":" expr ] "]"
abbrev pub IsProperWidth : WidthTree → Type 0
IsProperWidth (MakeWidth left_bracket_place expr low right_bracket_place) = IsProperExpr expr × OptionIs IsProperLow low

-- plain = ("int"|"bit") [width] | "bool"
abbrev pub IsProperPlain : PlainTree → Type 0
IsProperPlain (PlainInt int_place width) = OptionIs IsProperWidth width
IsProperPlain (PlainBit bit_place width) = OptionIs IsProperWidth width
IsProperPlain (PlainBool place) = Unit {0}

-- "in" "[" ranges "]"
abbrev pub IsProperDomain : DomainTree → Type 0
IsProperDomain (MakeDomain in_place left_bracket_place ranges right_bracket_place) = IsProperRanges ranges

-- type = plain ["in" "[" ranges "]"] | tname ["in" "[" ranges "]"]
abbrev pub IsProperType : TypeTree → Type 0
IsProperType (TypePlain plain domain) = IsProperPlain plain × OptionIs IsProperDomain domain
IsProperType (TypeNamed name domain) = OptionIs IsProperDomain domain
