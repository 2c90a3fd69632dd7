-- Types, parsed from left to right: depth derivations that count are open at the tokens of a part itself, and size bounds the turns of each loop.
use Rattle.pst_ast.specs.Limits.{counted}
use Rattle.pst_ast.specs.SharedTree.{DomainTree, TypeTree, MakeDomain, TypePlain, TypeNamed}
use Rattle.pst_parse_part.specs.Choices.{if_next}
use Rattle.pst_parse_expr.specs.Constraints.{Within, is_at}
use Rattle.pst_reading.specs.Kinds.{is_name, next_is}
use Rattle.pst_reading.specs.Options.{option_by}
use Rattle.pst_reading.specs.Parser.{Done, ◌>>=◌, mark_by}
use Rattle.pst_token.specs.declared.kind.Kind.TheVariants as kind
use Rattle.std.specs.Prelude.{ℕ}
use Rattle.pst_parse_part.specs.Ranges.{ranges_by}
use Rattle.pst_parse_part.specs.Plain.{plain_by}
use Rattle.pst_parse_part.specs.Names.{type_name_by}

-- "in" "[" ranges "]"
abbrev pub domain_by : ℕ → Within DomainTree
domain_by size depth = do
  in_place ← mark_by kind.In (counted depth 0)
  left_bracket ← mark_by kind.LeftBracket (counted depth 0)
  ranges ← ranges_by size depth
  right_bracket ← mark_by kind.RightBracket (counted depth 0)
  Done (MakeDomain in_place left_bracket ranges right_bracket)

abbrev pub plain_type_by : ℕ → Within TypeTree
plain_type_by size depth = do
  plain ← plain_by size depth
  domain ← option_by (is_at kind.In) (domain_by size depth)
  Done (TypePlain plain domain)

abbrev pub named_type_by : ℕ → Within TypeTree
named_type_by size depth = do
  name ← type_name_by depth
  domain ← option_by (is_at kind.In) (domain_by size depth)
  Done (TypeNamed name domain)

-- type = plain ["in" "[" ranges "]"] | tname ["in" "[" ranges "]"]
abbrev pub type_by : ℕ → Within TypeTree
type_by size depth = if_next (next_is is_name) (named_type_by size depth) (plain_type_by size depth)
