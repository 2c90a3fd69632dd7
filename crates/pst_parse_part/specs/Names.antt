-- Names and lists of names, parsed from left to right: depth derivations that count are open at their tokens, and size bounds the turns of each loop.
use Rattle.pst_ast.specs.Limits.{counted}
use Rattle.pst_ast.specs.SharedTree.{NamesTree, MakeNames}
use Rattle.pst_ast.specs.declared.shared.ScopedName.{ScopedName}
use Rattle.pst_ast.specs.declared.shared.TypeName.{TypeName}
use Rattle.pst_parse_expr.specs.Constraints.{Within, is_at}
use Rattle.pst_reading.specs.Lists.{list_by}
use Rattle.pst_reading.specs.Options.{option_by}
use Rattle.pst_reading.specs.Parser.{Done, ◌>>=◌, mark_by, name_by}
use Rattle.pst_token.specs.declared.kind.Kind.TheVariants as kind
use Rattle.std.specs.Prelude.{ℕ}
use Rattle.pst_ast.specs.declared.shared.NextName.{NextName}

-- "::" NAME
abbrev pub scoped_name_by : Within ScopedName
scoped_name_by depth = do
  colons ← mark_by kind.ColonColon (counted depth 0)
  name ← name_by (counted depth 0)
  Done (record { colons = colons; name = name })

-- tname = NAME [ "::" NAME ]
abbrev pub type_name_by : Within TypeName
type_name_by depth = do
  first ← name_by (counted depth 0)
  second ← option_by (is_at kind.ColonColon) (scoped_name_by depth)
  Done (record { first = first; second = second })

-- "," NAME
abbrev pub next_name_by : Within NextName
next_name_by depth = do
  comma ← mark_by kind.Comma (counted depth 0)
  name ← name_by (counted depth 0)
  Done (record { comma = comma; name = name })

-- NAME { "," NAME }
abbrev pub names_by : ℕ → Within NamesTree
names_by size depth = do
  first ← name_by (counted depth 0)
  rest ← list_by (is_at kind.Comma) (next_name_by depth) size
  Done (MakeNames first rest)
