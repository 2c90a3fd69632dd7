-- The trees of the program of shared without where they lie in memory.
use Rattle.std.specs.Option.{option_map}
use Rattle.pst_ast.specs.ExpressionView.{view_expr, view_ranges}
use Rattle.pst_ast.specs.SharedTree.{NextExprTree, MakeNextExpr, NamesTree, MakeNames, PlainTree, PlainInt, PlainBit, PlainBool, WidthTree, MakeWidth, LowTree, MakeLow, TypeTree, TypePlain, TypeNamed, DomainTree, MakeDomain}
use Rattle.pst_ast.specs.declared.shared.NextExpr.{NextExpr}
use Rattle.pst_ast.specs.declared.shared.NamesNode.{NamesNode}
use Rattle.pst_ast.specs.declared.shared.PlainNode.{PlainNode}
use Rattle.pst_ast.specs.declared.shared.PlainNode.TheVariants as the_plain
use Rattle.pst_ast.specs.declared.shared.WidthNode.{WidthNode}
use Rattle.pst_ast.specs.declared.shared.LowNode.{LowNode}
use Rattle.pst_ast.specs.declared.shared.TypeNode.{TypeNode}
use Rattle.pst_ast.specs.declared.shared.TypeNode.TheVariants as the_type
use Rattle.pst_ast.specs.declared.shared.DomainNode.{DomainNode}

-- "," expr
abbrev pub view_next_expr : NextExpr → NextExprTree
view_next_expr t = MakeNextExpr t.comma (view_expr t.expr)

-- NAME { "," NAME }
abbrev pub view_names : NamesNode → NamesTree
view_names t = MakeNames t.first t.rest.items

-- ":" expr
abbrev pub view_low : LowNode → LowTree
view_low t = MakeLow t.colon (view_expr t.expr)

-- width = "[" expr [ ":" expr ] "]"
abbrev pub view_width : WidthNode → WidthTree
view_width t = MakeWidth t.left_bracket (view_expr t.expr) (option_map view_low t.low) t.right_bracket

-- plain = ("int"|"bit") [width] | "bool"
abbrev pub view_plain : PlainNode → PlainTree
view_plain (the_plain.Int int_place width) = PlainInt int_place (option_map view_width width)
view_plain (the_plain.Bit bit_place width) = PlainBit bit_place (option_map view_width width)
view_plain (the_plain.Bool place) = PlainBool place

-- "in" "[" ranges "]"
abbrev pub view_domain : DomainNode → DomainTree
view_domain t = MakeDomain t.in_ t.left_bracket (view_ranges t.ranges) t.right_bracket

-- type = plain ["in" "[" ranges "]"] | tname ["in" "[" ranges "]"]
abbrev pub view_type : TypeNode → TypeTree
view_type (the_type.Plain plain domain) = TypePlain (view_plain plain) (option_map view_domain domain)
view_type (the_type.Named name domain) = TypeNamed name (option_map view_domain domain)
