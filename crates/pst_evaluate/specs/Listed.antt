-- Enum items and ranges as they are listed.
use Rattle.std.specs.Prelude.{List, map}
use Rattle.std.specs.Option.{option_map}
use Rattle.pst_ast.specs.ExpressionTree.{RangeTree}
use Rattle.pst_ast.specs.ExpressionView.{view_expr, view_range}
use Rattle.pst_ast.specs.declared.expression.NextRange.{NextRange}
use Rattle.pst_type_rules.specs.Enums.{DeclaredItem, DeclaredEnum}
use Rattle.pst_evaluate.specs.declared.item.ListedItem.{ListedItem}

abbrev pub view_listed : ListedItem → DeclaredItem
view_listed i = record { component = i.component; name = i.name; before = i.before; expr = option_map (λ e. view_expr e.now) i.expr }

abbrev pub view_each : List ListedItem → List DeclaredItem
view_each items = map view_listed items

abbrev pub items_of : DeclaredEnum → List DeclaredItem
items_of e = e.items

-- a range behind the first
abbrev pub as_range : NextRange → RangeTree
as_range next = view_range next.range
