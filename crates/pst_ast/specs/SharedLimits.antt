-- What counts towards the limits at each token of the trees of parts that several rules share; depth derivations that count are open round the tree.
use Rattle.std.specs.Prelude.{ℕ, List, [], ◌∷◌, ◌++◌}
use Rattle.std.specs.List.{flat_map}
use Rattle.pst_ast.specs.ExpressionTree.{RangesTree, MakeRanges, NextRangeTree, MakeNextRange, RangeTree, RangeSingle, RangeBetween, NextRangeRow, NoNextRangeRow, MoreNextRangeRow}
use Rattle.pst_ast.specs.SharedTree.{NextExprTree, MakeNextExpr, NamesTree, MakeNames, PlainTree, PlainInt, PlainBit, PlainBool, WidthTree, MakeWidth, LowTree, MakeLow, TypeTree, TypePlain, TypeNamed, DomainTree, MakeDomain}
use Rattle.pst_ast.specs.declared.shared.NextName.{NextName}
use Rattle.pst_ast.specs.declared.shared.DotName.{DotName}
use Rattle.pst_ast.specs.declared.shared.LabelNode.{LabelNode}
use Rattle.pst_ast.specs.declared.shared.TypeName.{TypeName}
use Rattle.pst_ast.specs.declared.shared.ScopedName.{ScopedName}
use Rattle.pst_ast.specs.Limits.{Count, counted, counts_option}
use Rattle.pst_ast.specs.ExpressionLimits.{counts_expr}

-- "," expr
abbrev pub counts_next_expr : ℕ → NextExprTree → List Count
counts_next_expr depth (MakeNextExpr comma_place expr) = counted depth 0 ∷ counts_expr depth 0 expr

-- "," NAME
abbrev pub counts_next_name : ℕ → NextName → List Count
counts_next_name depth t = counted depth 0 ∷ counted depth 0 ∷ []

-- "." NAME
abbrev pub counts_dot_name : ℕ → DotName → List Count
counts_dot_name depth t = counted depth 0 ∷ counted depth 0 ∷ []

-- NAME { "," NAME }
abbrev pub counts_names : ℕ → NamesTree → List Count
counts_names depth (MakeNames first rest) = counted depth 0 ∷ flat_map (counts_next_name depth) rest

-- NAME ":"
abbrev pub counts_label : ℕ → LabelNode → List Count
counts_label depth t = counted depth 0 ∷ counted depth 0 ∷ []

-- "::" NAME
abbrev pub counts_scoped_name : ℕ → ScopedName → List Count
counts_scoped_name depth t = counted depth 0 ∷ counted depth 0 ∷ []

-- tname = NAME [ "::" NAME ]
abbrev pub counts_type_name : ℕ → TypeName → List Count
counts_type_name depth t = counted depth 0 ∷ counts_option (counts_scoped_name depth) t.second

-- ":" expr
abbrev pub counts_low : ℕ → LowTree → List Count
counts_low depth (MakeLow colon_place expr) = counted depth 0 ∷ counts_expr depth 0 expr

-- width = "[" expr [ ":" expr ] "]"
abbrev pub counts_width : ℕ → WidthTree → List Count
counts_width depth (MakeWidth left_bracket_place expr low right_bracket_place) = counted depth 0 ∷ (counts_expr depth 0 expr ++ (counts_option (counts_low depth) low ++ counted depth 0 ∷ []))

-- plain = ("int"|"bit") [width] | "bool"
abbrev pub counts_plain : ℕ → PlainTree → List Count
counts_plain depth (PlainInt int_place width) = counted depth 0 ∷ counts_option (counts_width depth) width
counts_plain depth (PlainBit bit_place width) = counted depth 0 ∷ counts_option (counts_width depth) width
counts_plain depth (PlainBool place) = counted depth 0 ∷ []

-- range = expr [ ".." expr ], each end an outermost expression of its own
abbrev pub counts_own_range : ℕ → RangeTree → List Count
counts_own_range depth (RangeSingle expr) = counts_expr depth 0 expr
counts_own_range depth (RangeBetween low dots_place high) = counts_expr depth 0 low ++ counted depth 0 ∷ counts_expr depth 0 high

-- "," range
abbrev pub counts_own_next_range : ℕ → NextRangeTree → List Count
counts_own_next_range depth (MakeNextRange comma_place range) = counted depth 0 ∷ counts_own_range depth range

-- { "," range }
abbrev pub counts_own_range_row : ℕ → NextRangeRow → List Count
counts_own_range_row depth NoNextRangeRow = []
counts_own_range_row depth (MoreNextRangeRow head tail) = counts_own_next_range depth head ++ counts_own_range_row depth tail

-- ranges = range { "," range }
abbrev pub counts_own_ranges : ℕ → RangesTree → List Count
counts_own_ranges depth (MakeRanges first rest) = counts_own_range depth first ++ counts_own_range_row depth rest

-- "in" "[" ranges "]"
abbrev pub counts_domain : ℕ → DomainTree → List Count
counts_domain depth (MakeDomain in_place left_bracket_place ranges right_bracket_place) = counted depth 0 ∷ counted depth 0 ∷ (counts_own_ranges depth ranges ++ counted depth 0 ∷ [])

-- type = plain ["in" "[" ranges "]"] | tname ["in" "[" ranges "]"]
abbrev pub counts_type : ℕ → TypeTree → List Count
counts_type depth (TypePlain plain domain) = counts_plain depth plain ++ counts_option (counts_domain depth) domain
counts_type depth (TypeNamed name domain) = counts_type_name depth name ++ counts_option (counts_domain depth) domain
