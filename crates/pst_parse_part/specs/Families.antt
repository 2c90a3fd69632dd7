-- The parsers of shared parts for each size: each function of the program has one of these.
use Rattle.pst_ast.specs.ExpressionTree.{RangesTree, NextRangeTree, RangeTree}
use Rattle.pst_ast.specs.Limits.{counted}
use Rattle.pst_ast.specs.SharedTree.{NamesTree, LowTree, WidthTree, PlainTree}
use Rattle.pst_ast.specs.declared.shared.NextName.{NextName}
use Rattle.pst_ast.specs.declared.shared.ScopedName.{ScopedName}
use Rattle.pst_ast.specs.declared.shared.TypeName.{TypeName}
use Rattle.pst_base.specs.declared.position.Place.{Place}
use Rattle.pst_parse_part.specs.Names.{names_by, next_name_by, scoped_name_by, type_name_by}
use Rattle.pst_parse_part.specs.Plain.{int_by, width_by, plain_by, bit_by, low_by}
use Rattle.pst_parse_part.specs.Ranges.{range_by, next_range_by, ranges_by}
use Rattle.pst_reading.specs.Gives.{Family}
use Rattle.pst_reading.specs.Parser.{mark_by}
use Rattle.pst_token.specs.declared.kind.Kind.{Kind}
use Rattle.std.specs.Global.{Vec}
use Rattle.std.specs.Prelude.{ℕ, List, map}

abbrev pub scoped_name_family : ℕ → Family ScopedName
scoped_name_family depth size prefixes = scoped_name_by depth

abbrev pub type_name_family : ℕ → Family TypeName
type_name_family depth size prefixes = type_name_by depth

abbrev pub next_name_family : ℕ → Family NextName
next_name_family depth size prefixes = next_name_by depth

abbrev pub names_family : ℕ → Family NamesTree
names_family depth size prefixes = names_by size depth

abbrev pub low_family : ℕ → Family LowTree
low_family depth size prefixes = low_by size depth

abbrev pub width_family : ℕ → Family WidthTree
width_family depth size prefixes = width_by size depth

abbrev pub int_family : ℕ → Family PlainTree
int_family depth size prefixes = int_by size depth

abbrev pub bit_family : ℕ → Family PlainTree
bit_family depth size prefixes = bit_by size depth

abbrev pub plain_family : ℕ → Family PlainTree
plain_family depth size prefixes = plain_by size depth

abbrev pub range_family : ℕ → Family RangeTree
range_family depth size prefixes = range_by size depth

abbrev pub next_range_family : ℕ → Family NextRangeTree
next_range_family depth size prefixes = next_range_by size depth

abbrev pub ranges_family : ℕ → Family RangesTree
ranges_family depth size prefixes = ranges_by size depth

abbrev pub mark_family : Kind → ℕ → Family Place
mark_family k depth size prefixes = mark_by k (counted depth 0)

-- what the program has, without where it lies in memory
abbrev pub view_itself : {A : Type 0} → A → A
view_itself x = x

abbrev pub view_list : {X A : Type 0} → (X → A) → Vec X → List A
view_list view v = map view v.items

abbrev pub view_items_of : {A : Type 0} → Vec A → List A
view_items_of v = v.items
