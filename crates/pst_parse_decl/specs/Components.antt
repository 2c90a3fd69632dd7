-- Components, and parts of a unit, parsed from left to right.
use Rattle.pst_ast.specs.ActivityTree.{ActivityTree}
use Rattle.pst_ast.specs.BodyTree.{BodyTree}
use Rattle.pst_ast.specs.DeclarationTree.{ComponentPartTree, ComponentTree, ItemTree, ComponentPartAction, ComponentPartObject, ComponentPartEnum, ComponentPartFunction, ComponentPartPool, ComponentPartPoolBind, ComponentPartMembers, ComponentPartEmpty, MakeComponent, ItemComponent, ItemObject, ItemEnum, ItemFunction, ItemEmpty}
use Rattle.pst_ast.specs.Limits.{counted}
use Rattle.pst_parse_decl.specs.Actions.{action_by}
use Rattle.pst_parse_part.specs.Choices.{if_next}
use Rattle.pst_parse_member.specs.Enums.{enum_by, function_by}
use Rattle.pst_parse_member.specs.Members.{members_by}
use Rattle.pst_parse_decl.specs.Objects.{object_by}
use Rattle.pst_parse_member.specs.Pools.{pool_by, pool_bind_by}
use Rattle.pst_parse_expr.specs.Constraints.{Within, is_at, is_other}
use Rattle.pst_reading.specs.Lists.{list_by}
use Rattle.pst_reading.specs.Parser.{Done, followed_by, ◌>>=◌, mark_by, name_by, if_mark, next}
use Rattle.pst_token.specs.declared.kind.Kind.TheVariants as kind
use Rattle.pst_token.specs.declared.token.Token.{Token}
use Rattle.std.specs.Prelude.{ℕ, suc, ◌||◌, Bool, Option}

abbrev pub begins_action : Option Token → Bool
begins_action next = is_at kind.Abstract next || is_at kind.Action next

abbrev pub begins_object : Option Token → Bool
begins_object next = is_at kind.Buffer next || (is_at kind.Stream next || (is_at kind.State next || is_at kind.Resource next))

abbrev pub empty_component_part_by : Within ComponentPartTree
empty_component_part_by depth = followed_by (mark_by kind.Semicolon (counted depth 0)) (λ place. Done (ComponentPartEmpty place))

-- one part of component between its braces
abbrev pub component_part_by : (ℕ → Within ActivityTree) → (ℕ → Within BodyTree) → ℕ → Within ComponentPartTree
component_part_by activity body size depth = if_next begins_action (followed_by (action_by activity body size depth) (λ action. Done (ComponentPartAction action))) (
    if_next begins_object (followed_by (object_by size depth) (λ object. Done (ComponentPartObject object))) (
    if_mark kind.Enum (followed_by (enum_by size depth) (λ tree. Done (ComponentPartEnum tree))) (
    if_mark kind.Import (followed_by (function_by size depth) (λ function. Done (ComponentPartFunction function))) (
    if_mark kind.Pool (followed_by (pool_by size depth) (λ pool. Done (ComponentPartPool pool))) (
    if_mark kind.Bind (followed_by (pool_bind_by size depth) (λ bind. Done (ComponentPartPoolBind bind))) (
    if_mark kind.Semicolon (empty_component_part_by depth)
    (followed_by (members_by size depth) (λ members. Done (ComponentPartMembers members)))))))))

-- component = "component" NAME "{" { action | object | enum | function | pool | poolbind | members | ";" } "}"
abbrev pub component_by : (ℕ → Within ActivityTree) → (ℕ → Within BodyTree) → ℕ → Within ComponentTree
component_by activity body size depth = do
  component ← mark_by kind.Component (counted (suc depth) 0)
  name ← name_by (counted (suc depth) 0)
  left_brace ← mark_by kind.LeftBrace (counted (suc depth) 0)
  parts ← list_by (is_other kind.RightBrace) (component_part_by activity body size (suc depth)) size
  right_brace ← mark_by kind.RightBrace (counted (suc depth) 0)
  Done (MakeComponent component name left_brace parts right_brace)

abbrev pub empty_item_by : Within ItemTree
empty_item_by depth = followed_by (mark_by kind.Semicolon (counted depth 0)) (λ place. Done (ItemEmpty place))

-- one part of unit before its end
abbrev pub item_by : (ℕ → Within ActivityTree) → (ℕ → Within BodyTree) → ℕ → Within ItemTree
item_by activity body size depth = if_mark kind.Component (followed_by (component_by activity body size depth) (λ component. Done (ItemComponent component))) (
    if_mark kind.Enum (followed_by (enum_by size depth) (λ tree. Done (ItemEnum tree))) (
    if_mark kind.Import (followed_by (function_by size depth) (λ function. Done (ItemFunction function))) (
    if_mark kind.Semicolon (empty_item_by depth)
    (followed_by (object_by size depth) (λ object. Done (ItemObject object))))))
