-- The parsers of objects, actions, components and parts of a unit for each size: each function of the program has one of these.
use Rattle.pst_ast.specs.ActivityTree.{ActivityTree}
use Rattle.pst_ast.specs.BodyTree.{BodyTree}
use Rattle.pst_ast.specs.ConstraintTree.{ConstraintTree, ConstraintContentTree, ConstraintDeclarationTree, ConstraintContentNamed}
use Rattle.pst_ast.specs.DeclarationTree.{ActionPartTree, ActionTree, ObjectPartTree, ObjectTree, ComponentPartTree, ComponentTree, ItemTree}
use Rattle.pst_ast.specs.Limits.{counted}
use Rattle.pst_ast.specs.declared.declaration.BaseNode.{BaseNode}
use Rattle.pst_ast.specs.declared.declaration.ObjectWord.{ObjectWord}
use Rattle.pst_base.specs.declared.position.Place.{Place}
use Rattle.pst_parse_decl.specs.Actions.{action_part_by, base_by, action_by}
use Rattle.pst_parse_decl.specs.Components.{item_by, component_part_by, component_by}
use Rattle.pst_parse_decl.specs.Objects.{content_by, object_part_by, set_content_by, object_word_by, object_by, constraint_declaration_by}
use Rattle.pst_parse_expr.specs.ConstraintFamilies.{items_family}
use Rattle.pst_parse_expr.specs.Constraints.{Within, constraint_at}
use Rattle.pst_reading.specs.Gives.{Family}
use Rattle.pst_reading.specs.Parser.{Done, ◌>>=◌, mark_by, name_by}
use Rattle.pst_token.specs.declared.kind.Kind.TheVariants as kind
use Rattle.std.specs.Prelude.{ℕ, suc}

abbrev pub content_family : ℕ → Family ConstraintContentTree
content_family depth size prefixes = content_by size depth

abbrev pub constraint_declaration_family : ℕ → Family ConstraintDeclarationTree
constraint_declaration_family depth size prefixes = constraint_declaration_by size depth

abbrev pub object_word_family : ℕ → Family (ObjectWord × Place)
object_word_family depth size prefixes = object_word_by depth

abbrev pub object_part_family : ℕ → Family ObjectPartTree
object_part_family depth size prefixes = object_part_by size depth

abbrev pub object_family : ℕ → Family ObjectTree
object_family depth size prefixes = object_by size depth

abbrev pub base_family : ℕ → Family BaseNode
base_family depth size prefixes = base_by depth

abbrev pub action_part_family : (ℕ → Within ActivityTree) → (ℕ → Within BodyTree) → ℕ → Family ActionPartTree
action_part_family activity body depth size prefixes = action_part_by activity body size depth

abbrev pub action_family : (ℕ → Within ActivityTree) → (ℕ → Within BodyTree) → ℕ → Family ActionTree
action_family activity body depth size prefixes = action_by activity body size depth

abbrev pub component_part_family : (ℕ → Within ActivityTree) → (ℕ → Within BodyTree) → ℕ → Family ComponentPartTree
component_part_family activity body depth size prefixes = component_part_by activity body size depth

abbrev pub component_family : (ℕ → Within ActivityTree) → (ℕ → Within BodyTree) → ℕ → Family ComponentTree
component_family activity body depth size prefixes = component_by activity body size depth

abbrev pub item_family : (ℕ → Within ActivityTree) → (ℕ → Within BodyTree) → ℕ → Family ItemTree
item_family activity body depth size prefixes = item_by activity body size depth

-- a name, and constraints in braces: inner derivations are open at the name
abbrev pub named_family : ℕ → ℕ → Family ConstraintContentTree
named_family inner depth size prefixes = do
  name ← name_by (counted inner 0)
  left_brace ← mark_by kind.LeftBrace (counted depth 0)
  items ← items_family inner size prefixes
  right_brace ← mark_by kind.RightBrace (counted depth 0)
  Done (ConstraintContentNamed name left_brace items right_brace)

abbrev pub set_content_family : ℕ → Family ConstraintContentTree
set_content_family depth size prefixes = set_content_by size depth

abbrev pub whole_set_family : ℕ → Family ConstraintTree
whole_set_family depth size prefixes = constraint_at (suc size) depth
