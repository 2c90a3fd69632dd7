-- What components, and parts of a unit, explain.
use Rattle.pst_ast.specs.ActivityLimits.{counts_activity}
use Rattle.pst_ast.specs.ActivityProper.{IsProperActivity}
use Rattle.pst_ast.specs.ActivitySpelling.{spell_activity}
use Rattle.pst_ast.specs.ActivityTree.{ActivityTree}
use Rattle.pst_ast.specs.BodyLimits.{counts_body}
use Rattle.pst_ast.specs.BodyProper.{IsProperBody}
use Rattle.pst_ast.specs.BodySpelling.{spell_body}
use Rattle.pst_ast.specs.BodyTree.{BodyTree}
use Rattle.pst_ast.specs.DeclarationLimits.{counts_members, counts_enum, counts_function, counts_pool, counts_pool_bind}
use Rattle.pst_ast.specs.DeclarationProper.{IsProperMembers, IsProperAction, IsProperObject, IsProperEnum, IsProperFunction, IsProperPool, IsProperPoolBind, IsProperComponentPart, IsProperComponent, IsProperItem}
use Rattle.pst_ast.specs.DeclarationSpelling.{spell_members, spell_action, spell_object, spell_enum, spell_function, spell_pool, spell_pool_bind, spell_component_part, spell_component, spell_item}
use Rattle.pst_ast.specs.DeclarationTree.{ComponentPartAction, ComponentPartObject, ComponentPartEnum, ComponentPartFunction, ComponentPartPool, ComponentPartPoolBind, ComponentPartMembers, ComponentPartEmpty, MakeComponent, ItemComponent, ItemObject, ItemEnum, ItemFunction, ItemEmpty}
use Rattle.pst_ast.specs.Limits.{counted}
use Rattle.pst_parse_decl.proofs.ActionsExplain.{action_explains}
use Rattle.pst_parse_part.proofs.ChoicesExplain.{explains_if_mark, explains_if_next, explains_made, explains_empty}
use Rattle.pst_parse_member.proofs.EnumsExplain.{enum_explains, function_explains}
use Rattle.pst_parse_member.proofs.MembersExplain.{members_explains}
use Rattle.pst_parse_decl.proofs.ObjectsExplain.{object_explains}
use Rattle.pst_parse_member.proofs.PoolsExplain.{pool_explains, pool_bind_explains}
use Rattle.pst_parse_decl.proofs.Taken.{taken_object, taken_action, taken_component_part, taken_component, taken_item}
use Rattle.pst_parse_decl.specs.Actions.{action_by}
use Rattle.pst_parse_decl.specs.Components.{item_by, begins_object, begins_action, component_by, component_part_by}
use Rattle.pst_parse_member.specs.Enums.{function_by, enum_by}
use Rattle.pst_parse_member.specs.Members.{members_by}
use Rattle.pst_parse_decl.specs.Objects.{object_by}
use Rattle.pst_parse_member.specs.Pools.{pool_by, pool_bind_by}
use Rattle.pst_parse_expr.specs.Constraints.{Within, is_other}
use Rattle.pst_reading.proofs.Chains.{explains_mark, explains_name, explains_part}
use Rattle.pst_reading.proofs.Explaining.{Means, Explains, explains_done}
use Rattle.pst_reading.proofs.Lists.{list_explains}
use Rattle.pst_reading.specs.Lists.{list_by}
use Rattle.pst_token.specs.declared.kind.Kind.TheVariants as kind
use Rattle.std.proofs.Common.{refl, ℕ, suc}
use Rattle.std.specs.List.{flat_map, AllByRecursion}

module _ (activity : ℕ → Within ActivityTree) (body : ℕ → Within BodyTree) (activity_explains : (size depth : ℕ) → Explains (Means spell_activity IsProperActivity (counts_activity depth)) (activity size depth)) (body_explains : (size depth : ℕ) → Explains (Means spell_body IsProperBody (counts_body depth)) (body size depth)) where
  pub component_part_explains : (size depth : ℕ) → Explains (Means spell_component_part IsProperComponentPart (taken_component_part depth)) (component_part_by activity body size depth)
  component_part_explains size depth =
      let M = Means spell_component_part IsProperComponentPart (taken_component_part depth) in
      explains_if_next M begins_action _ _ (explains_made M spell_action IsProperAction (taken_action depth) (action_by activity body size depth) ComponentPartAction (action_explains activity body activity_explains body_explains size depth) (λ x p. record { is = refl; proper = p; counted = refl })) (
      explains_if_next M begins_object _ _ (explains_made M spell_object IsProperObject (taken_object depth) (object_by size depth) ComponentPartObject (object_explains size depth) (λ x p. record { is = refl; proper = p; counted = refl })) (
      explains_if_mark M kind.Enum _ _ (explains_made M spell_enum IsProperEnum (counts_enum depth) (enum_by size depth) ComponentPartEnum (enum_explains size depth) (λ x p. record { is = refl; proper = p; counted = refl })) (
      explains_if_mark M kind.Import _ _ (explains_made M spell_function IsProperFunction (counts_function depth) (function_by size depth) ComponentPartFunction (function_explains size depth) (λ x p. record { is = refl; proper = p; counted = refl })) (
      explains_if_mark M kind.Pool _ _ (explains_made M spell_pool IsProperPool (counts_pool depth) (pool_by size depth) ComponentPartPool (pool_explains size depth) (λ x p. record { is = refl; proper = p; counted = refl })) (
      explains_if_mark M kind.Bind _ _ (explains_made M spell_pool_bind IsProperPoolBind (counts_pool_bind depth) (pool_bind_by size depth) ComponentPartPoolBind (pool_bind_explains size depth) (λ x p. record { is = refl; proper = p; counted = refl })) (
      explains_if_mark M kind.Semicolon _ _ (explains_empty M kind.Semicolon (counted depth 0) ComponentPartEmpty (λ p. record { is = refl; proper = tt; counted = refl })) (
      explains_made M spell_members IsProperMembers (counts_members depth) (members_by size depth) ComponentPartMembers (members_explains size depth) (λ x p. record { is = refl; proper = p; counted = refl }))))))))

  pub component_explains : (size depth : ℕ) → Explains (Means spell_component IsProperComponent (taken_component depth)) (component_by activity body size depth)
  component_explains size depth =
      explains_mark _ kind.Component (counted (suc depth) 0) _ (λ component.
      explains_name _ (counted (suc depth) 0) _ (λ name.
      explains_mark _ kind.LeftBrace (counted (suc depth) 0) _ (λ left_brace.
      explains_part _ (flat_map spell_component_part) (AllByRecursion IsProperComponentPart) (flat_map (taken_component_part (suc depth))) (list_by (is_other kind.RightBrace) (component_part_by activity body size (suc depth)) size) _ (list_explains spell_component_part IsProperComponentPart (taken_component_part (suc depth)) (is_other kind.RightBrace) (component_part_by activity body size (suc depth)) (component_part_explains size (suc depth)) size) (λ parts h3.
      explains_mark _ kind.RightBrace (counted (suc depth) 0) _ (λ right_brace.
      explains_done _ (MakeComponent component name left_brace parts right_brace) (record { is = refl; proper = h3; counted = refl }))))))

  pub item_explains : (size depth : ℕ) → Explains (Means spell_item IsProperItem (taken_item depth)) (item_by activity body size depth)
  item_explains size depth =
      let M = Means spell_item IsProperItem (taken_item depth) in
      explains_if_mark M kind.Component _ _ (explains_made M spell_component IsProperComponent (taken_component depth) (component_by activity body size depth) ItemComponent (component_explains size depth) (λ x p. record { is = refl; proper = p; counted = refl })) (
      explains_if_mark M kind.Enum _ _ (explains_made M spell_enum IsProperEnum (counts_enum depth) (enum_by size depth) ItemEnum (enum_explains size depth) (λ x p. record { is = refl; proper = p; counted = refl })) (
      explains_if_mark M kind.Import _ _ (explains_made M spell_function IsProperFunction (counts_function depth) (function_by size depth) ItemFunction (function_explains size depth) (λ x p. record { is = refl; proper = p; counted = refl })) (
      explains_if_mark M kind.Semicolon _ _ (explains_empty M kind.Semicolon (counted depth 0) ItemEmpty (λ p. record { is = refl; proper = tt; counted = refl })) (
      explains_made M spell_object IsProperObject (taken_object depth) (object_by size depth) ItemObject (object_explains size depth) (λ x p. record { is = refl; proper = p; counted = refl })))))
