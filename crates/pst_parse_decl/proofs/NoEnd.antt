-- No part of a unit has the token `End` in it.
use Rattle.pst_ast.specs.ActivitySpelling.{spell_activity}
use Rattle.pst_ast.specs.ActivityTree.{ActivityTree}
use Rattle.pst_ast.specs.BodySpelling.{spell_body}
use Rattle.pst_ast.specs.BodyTree.{BodyTree}
use Rattle.pst_ast.specs.ConstraintSpelling.{spell_constraint_item, spell_constraint_content, spell_constraint_declaration}
use Rattle.pst_ast.specs.ConstraintTree.{ConstraintContentTree, ConstraintDeclarationTree, ConstraintOne, ConstraintContentNamed, ConstraintContentSet, MakeConstraintDeclaration}
use Rattle.pst_ast.specs.DeclarationSpelling.{spell_base, spell_action_part, spell_action, spell_object_part, spell_object, spell_component_part, spell_component, spell_item}
use Rattle.pst_ast.specs.DeclarationTree.{ActionPartTree, ActionTree, ObjectPartTree, ObjectTree, ComponentPartTree, ComponentTree, ItemTree, ActionPartField, ActionPartReference, ActionPartClaim, ActionPartMembers, ActionPartConstraint, ActionPartActivity, ActionPartBody, ActionPartEmpty, MakeAction, ObjectPartField, ObjectPartConstraint, ObjectPartEmpty, MakeObject, ComponentPartAction, ComponentPartObject, ComponentPartEnum, ComponentPartFunction, ComponentPartPool, ComponentPartPoolBind, ComponentPartMembers, ComponentPartEmpty, MakeComponent, ItemComponent, ItemObject, ItemEnum, ItemFunction, ItemEmpty}
use Rattle.pst_ast.specs.Marks.{mark, spell_option, object_word_kind}
use Rattle.pst_ast.specs.declared.declaration.BaseNode.{BaseNode}
use Rattle.pst_ast.specs.declared.declaration.ObjectWord.TheVariants as the_object_word
use Rattle.pst_ast.specs.declared.declaration.ObjectWord.{ObjectWord}
use Rattle.pst_parse_expr.proofs.ConstraintNoEnd.{set_free}
use Rattle.pst_parse_member.proofs.NoEnd.{field_free, reference_free, claim_free, members_free, enum_free, function_free, pool_free, pool_bind_free}
use Rattle.pst_reading.proofs.Whole.{NoEnd, both_free}
use Rattle.pst_token.specs.declared.kind.Kind.TheVariants as kind
use Rattle.std.proofs.Common.{◌≢◌, [], ◌∷◌}
use Rattle.std.specs.List.{flat_map}
use Rattle.pst_parse_part.proofs.NoEnd.{free_option, free_list, type_name_free}

content_free : (x : ConstraintContentTree) → NoEnd (spell_constraint_content x)
content_free (ConstraintContentNamed name left_brace items right_brace) = (λ e. cc, (λ e. cc, both_free (flat_map spell_constraint_item items) _ (free_list spell_constraint_item (λ x. set_free (ConstraintOne x)) items) (λ e. cc, tt)))
content_free (ConstraintContentSet set) = set_free set

constraint_declaration_free : (x : ConstraintDeclarationTree) → NoEnd (spell_constraint_declaration x)
constraint_declaration_free (MakeConstraintDeclaration constraint content) = (λ e. cc, (content_free content))

object_word_free : (w : ObjectWord) → object_word_kind w ≢ kind.End
object_word_free the_object_word.Buffer e = absurd cc
object_word_free the_object_word.Stream e = absurd cc
object_word_free the_object_word.State e = absurd cc
object_word_free the_object_word.Resource e = absurd cc

object_part_free : (x : ObjectPartTree) → NoEnd (spell_object_part x)
object_part_free (ObjectPartField x) = field_free x
object_part_free (ObjectPartConstraint x) = constraint_declaration_free x
object_part_free (ObjectPartEmpty place) = (λ e. cc, tt)

object_free : (x : ObjectTree) → NoEnd (spell_object x)
object_free (MakeObject word place name left_brace parts right_brace) = (object_word_free word, (λ e. cc, (λ e. cc, both_free (flat_map spell_object_part parts) _ (free_list spell_object_part (λ x. (object_part_free x)) parts) (λ e. cc, tt))))

base_free : (x : BaseNode) → NoEnd (spell_base x)
base_free x = (λ e. cc, (type_name_free x.name))

module _ (activity_free : (x : ActivityTree) → NoEnd (spell_activity x)) (body_free : (x : BodyTree) → NoEnd (spell_body x)) where
  action_part_free : (x : ActionPartTree) → NoEnd (spell_action_part x)
  action_part_free (ActionPartField x) = field_free x
  action_part_free (ActionPartReference x) = reference_free x
  action_part_free (ActionPartClaim x) = claim_free x
  action_part_free (ActionPartMembers x) = members_free x
  action_part_free (ActionPartConstraint x) = constraint_declaration_free x
  action_part_free (ActionPartActivity x) = activity_free x
  action_part_free (ActionPartBody x) = body_free x
  action_part_free (ActionPartEmpty place) = (λ e. cc, tt)

  action_free : (x : ActionTree) → NoEnd (spell_action x)
  action_free (MakeAction abstract_place action name base left_brace parts right_brace) = both_free (spell_option (λ p. mark kind.Abstract p ∷ []) abstract_place) _ (free_option (λ p. mark kind.Abstract p ∷ []) (λ x. (λ e. cc, tt)) abstract_place) (λ e. cc, (λ e. cc, both_free (spell_option spell_base base) _ (free_option spell_base (λ x. (base_free x)) base) (λ e. cc, both_free (flat_map spell_action_part parts) _ (free_list spell_action_part (λ x. (action_part_free x)) parts) (λ e. cc, tt))))

  component_part_free : (x : ComponentPartTree) → NoEnd (spell_component_part x)
  component_part_free (ComponentPartAction x) = action_free x
  component_part_free (ComponentPartObject x) = object_free x
  component_part_free (ComponentPartEnum x) = enum_free x
  component_part_free (ComponentPartFunction x) = function_free x
  component_part_free (ComponentPartPool x) = pool_free x
  component_part_free (ComponentPartPoolBind x) = pool_bind_free x
  component_part_free (ComponentPartMembers x) = members_free x
  component_part_free (ComponentPartEmpty place) = (λ e. cc, tt)

  component_free : (x : ComponentTree) → NoEnd (spell_component x)
  component_free (MakeComponent component name left_brace parts right_brace) = (λ e. cc, (λ e. cc, (λ e. cc, both_free (flat_map spell_component_part parts) _ (free_list spell_component_part (λ x. (component_part_free x)) parts) (λ e. cc, tt))))

  pub item_free : (x : ItemTree) → NoEnd (spell_item x)
  item_free (ItemComponent x) = component_free x
  item_free (ItemObject x) = object_free x
  item_free (ItemEnum x) = enum_free x
  item_free (ItemFunction x) = function_free x
  item_free (ItemEmpty place) = (λ e. cc, tt)
