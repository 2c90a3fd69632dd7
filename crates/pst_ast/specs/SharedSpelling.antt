-- The tokens of the trees of shared.
use Rattle.std.specs.Prelude.{List, [], ◌∷◌, ◌++◌}
use Rattle.std.specs.List.{flat_map}
use Rattle.pst_token.specs.declared.token.Token.{Token}
use Rattle.pst_token.specs.declared.kind.Kind.TheVariants as kind
use Rattle.pst_ast.specs.Marks.{mark, name_token, spell_option}
use Rattle.pst_ast.specs.ExpressionSpelling.{spell_expr, spell_ranges}
use Rattle.pst_ast.specs.SharedTree.{NextExprTree, MakeNextExpr, NamesTree, MakeNames, PlainTree, PlainInt, PlainBit, PlainBool, WidthTree, MakeWidth, LowTree, MakeLow, TypeTree, TypePlain, TypeNamed, DomainTree, MakeDomain}
use Rattle.pst_ast.specs.declared.shared.NextName.{NextName}
use Rattle.pst_ast.specs.declared.shared.DotName.{DotName}
use Rattle.pst_ast.specs.declared.shared.LabelNode.{LabelNode}
use Rattle.pst_ast.specs.declared.shared.TypeName.{TypeName}
use Rattle.pst_ast.specs.declared.shared.ScopedName.{ScopedName}

-- "," expr
abbrev pub spell_next_expr : NextExprTree → List Token
spell_next_expr (MakeNextExpr comma_place expr) = mark kind.Comma comma_place ∷ spell_expr expr

-- "," NAME
abbrev pub spell_next_name : NextName → List Token
spell_next_name t = mark kind.Comma t.comma ∷ name_token t.name ∷ []

-- "." NAME
abbrev pub spell_dot_name : DotName → List Token
spell_dot_name t = mark kind.Dot t.dot ∷ name_token t.name ∷ []

-- NAME { "," NAME }
abbrev pub spell_names : NamesTree → List Token
spell_names (MakeNames first rest) = name_token first ∷ flat_map spell_next_name rest

-- NAME ":"
abbrev pub spell_label : LabelNode → List Token
spell_label t = name_token t.name ∷ mark kind.Colon t.colon ∷ []

-- "::" NAME
abbrev pub spell_scoped_name : ScopedName → List Token
spell_scoped_name t = mark kind.ColonColon t.colons ∷ name_token t.name ∷ []

-- tname = NAME [ "::" NAME ]
abbrev pub spell_type_name : TypeName → List Token
spell_type_name t = name_token t.first ∷ spell_option spell_scoped_name t.second

-- ":" expr
abbrev pub spell_low : LowTree → List Token
spell_low (MakeLow colon_place expr) = mark kind.Colon colon_place ∷ spell_expr expr

-- width = "[" expr [ ":" expr ] "]"
abbrev pub spell_width : WidthTree → List Token
spell_width (MakeWidth left_bracket_place expr low right_bracket_place) = mark kind.LeftBracket left_bracket_place ∷ (spell_expr expr ++ (spell_option spell_low low ++ mark kind.RightBracket right_bracket_place ∷ []))

-- plain = ("int"|"bit") [width] | "bool"
abbrev pub spell_plain : PlainTree → List Token
spell_plain (PlainInt int_place width) = mark kind.Int int_place ∷ spell_option spell_width width
spell_plain (PlainBit bit_place width) = mark kind.Bit bit_place ∷ spell_option spell_width width
spell_plain (PlainBool place) = mark kind.Bool place ∷ []

-- "in" "[" ranges "]"
abbrev pub spell_domain : DomainTree → List Token
spell_domain (MakeDomain in_place left_bracket_place ranges right_bracket_place) = mark kind.In in_place ∷ mark kind.LeftBracket left_bracket_place ∷ (spell_ranges ranges ++ mark kind.RightBracket right_bracket_place ∷ [])

-- type = plain ["in" "[" ranges "]"] | tname ["in" "[" ranges "]"]
abbrev pub spell_type : TypeTree → List Token
spell_type (TypePlain plain domain) = spell_plain plain ++ spell_option spell_domain domain
spell_type (TypeNamed name domain) = spell_type_name name ++ spell_option spell_domain domain
