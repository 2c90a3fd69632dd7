-- Fields and enums as they are kept.
use Rattle.std.specs.Prelude.{Option}
use Rattle.std.specs.Option.{option_map}
use Rattle.pst_ast.specs.DeclarationView.{view_enum}
use Rattle.pst_ast.specs.ExpressionTree.{ExprTree, PartTree, MakePart}
use Rattle.pst_ast.specs.ExpressionView.{view_expr}
use Rattle.pst_ast.specs.SharedView.{view_type}
use Rattle.pst_type_rules.specs.Enums.{DeclaredEnum, enum_of}
use Rattle.pst_type_rules.specs.Sites.{DeclaredField, size_in}
use Rattle.pst_site_lists.specs.declared.site.EnumSite.{EnumSite}
use Rattle.pst_site_lists.specs.declared.site.FieldSite.{FieldSite}

abbrev pub view_enum_site : EnumSite → DeclaredEnum
view_enum_site e = enum_of e.component (view_enum e.node.now)

abbrev pub view_field_site : FieldSite → DeclaredField
view_field_site f = record { at = f.at; type = view_type f.field_type.now; name = f.name; size = option_map (λ e. view_expr e.now) f.size }

-- the size of an array, where a name is declared
abbrev pub size_of_part : PartTree → Option ExprTree
size_of_part (MakePart name index) = size_in index
