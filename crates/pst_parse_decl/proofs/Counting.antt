-- The tokens that the parsers take break the limits where the grammar says.
use Rattle.pst_ast.specs.ConstraintLimits.{counts_constraint_item, counts_constraint_declaration}
use Rattle.pst_ast.specs.ConstraintTree.{ConstraintDeclarationTree, ConstraintContentNamed, ConstraintContentSet, MakeConstraintDeclaration}
use Rattle.pst_ast.specs.DeclarationLimits.{counts_base, counts_action_part, counts_action, counts_object_part, counts_object, counts_component_part, counts_item}
use Rattle.pst_ast.specs.DeclarationTree.{ActionPartTree, ActionTree, ObjectPartTree, ObjectTree, ComponentPartTree, ItemTree, ActionPartField, ActionPartReference, ActionPartClaim, ActionPartMembers, ActionPartConstraint, ActionPartActivity, ActionPartBody, ActionPartEmpty, MakeAction, ObjectPartField, ObjectPartConstraint, ObjectPartEmpty, MakeObject, ComponentPartAction, ComponentPartObject, ComponentPartEnum, ComponentPartFunction, ComponentPartPool, ComponentPartPoolBind, ComponentPartMembers, ComponentPartEmpty, MakeComponent, ItemComponent, ItemObject, ItemEnum, ItemFunction, ItemEmpty}
use Rattle.pst_ast.specs.Limits.{Count, counted, counts_option, is_over}
use Rattle.pst_parse_decl.proofs.Taken.{taken_constraint_declaration, taken_object_part, taken_object, taken_action_part, taken_action, taken_component_part, taken_item}
use Rattle.std.proofs.Common.{refl, sym, ap, ◌∙◌, ℕ, suc, ◌≡◌, Bool, List, [], ◌∷◌, ◌++◌, map}
use Rattle.std.proofs.lemmas.List.{map-append}
use Rattle.std.specs.List.{flat_map}

-- counts that break the limits at the same tokens, in front of others
pub over_both : (xs bs cs ds : List Count) → map is_over xs ≡ map is_over bs → map is_over cs ≡ map is_over ds → map is_over (xs ++ cs) ≡ map is_over (bs ++ ds)
over_both xs bs cs ds e f = map-append is_over xs cs ∙ ap (λ (u : List Bool). u ++ map is_over cs) e ∙ ap (λ (u : List Bool). map is_over bs ++ u) f ∙ sym (map-append is_over bs ds)

pub over_list : {A : Type 0} (f g : A → List Count) → ((x : A) → map is_over (f x) ≡ map is_over (g x)) → (xs : List A) → map is_over (flat_map f xs) ≡ map is_over (flat_map g xs)
over_list f g h [] = refl
over_list f g h (x ∷ xs) = over_both (f x) (g x) (flat_map f xs) (flat_map g xs) (h x) (over_list f g h xs)

-- one derivation more breaks no limit
module _ (d : ℕ) (light : is_over (counted (suc d) 0) ≡ is_over (counted d 0)) where
  same_declaration : (x : ConstraintDeclarationTree) → map is_over (taken_constraint_declaration d x) ≡ map is_over (counts_constraint_declaration d x)
  same_declaration (MakeConstraintDeclaration constraint_place (ConstraintContentNamed name left_brace items right_brace)) = ap (λ (b : Bool). is_over (counted d 0) ∷ b ∷ map is_over (counted d 0 ∷ (flat_map (counts_constraint_item d) items ++ counted d 0 ∷ []))) light
  same_declaration (MakeConstraintDeclaration constraint_place (ConstraintContentSet set)) = refl

  same_object_part : (x : ObjectPartTree) → map is_over (taken_object_part d x) ≡ map is_over (counts_object_part d x)
  same_object_part (ObjectPartField field) = refl
  same_object_part (ObjectPartConstraint declaration) = same_declaration declaration
  same_object_part (ObjectPartEmpty place) = refl

  same_object : (x : ObjectTree) → map is_over (taken_object d x) ≡ map is_over (counts_object d x)
  same_object (MakeObject word place name left_brace parts right_brace) =
      let c = counted d 0 in
      ap (λ (u : List Bool). is_over c ∷ is_over c ∷ is_over c ∷ u) (over_both (flat_map (taken_object_part d) parts) (flat_map (counts_object_part d) parts) (c ∷ []) (c ∷ []) (over_list (taken_object_part d) (counts_object_part d) same_object_part parts) refl)

  same_action_part : (x : ActionPartTree) → map is_over (taken_action_part d x) ≡ map is_over (counts_action_part d x)
  same_action_part (ActionPartField field) = refl
  same_action_part (ActionPartReference reference) = refl
  same_action_part (ActionPartClaim claim) = refl
  same_action_part (ActionPartMembers members) = refl
  same_action_part (ActionPartConstraint declaration) = same_declaration declaration
  same_action_part (ActionPartActivity activity) = refl
  same_action_part (ActionPartBody body) = refl
  same_action_part (ActionPartEmpty place) = refl

-- an action stands in a component, and that in nothing
same_action : (x : ActionTree) → map is_over (taken_action 1 x) ≡ map is_over (counts_action 1 x)
same_action (MakeAction abstract_place action name base left_brace parts right_brace) =
    let c = counted 2 0 in
    let inner = λ (part : ActionPartTree → List Count). flat_map part parts ++ c ∷ [] in
    let more = over_both (counts_option (counts_base 2) base) (counts_option (counts_base 2) base) (c ∷ inner (taken_action_part 2)) (c ∷ inner (counts_action_part 2)) refl (ap (λ (u : List Bool). is_over c ∷ u) (over_both (flat_map (taken_action_part 2) parts) (flat_map (counts_action_part 2) parts) (c ∷ []) (c ∷ []) (over_list (taken_action_part 2) (counts_action_part 2) (same_action_part 2 refl) parts) refl)) in
    over_both (counts_option (λ p. c ∷ []) abstract_place) (counts_option (λ p. c ∷ []) abstract_place) (c ∷ c ∷ (counts_option (counts_base 2) base ++ c ∷ inner (taken_action_part 2))) (c ∷ c ∷ (counts_option (counts_base 2) base ++ c ∷ inner (counts_action_part 2))) refl (ap (λ (u : List Bool). is_over c ∷ is_over c ∷ u) more)

same_component_part : (x : ComponentPartTree) → map is_over (taken_component_part 1 x) ≡ map is_over (counts_component_part 1 x)
same_component_part (ComponentPartAction action) = same_action action
same_component_part (ComponentPartObject object) = same_object 1 refl object
same_component_part (ComponentPartEnum enum) = refl
same_component_part (ComponentPartFunction function) = refl
same_component_part (ComponentPartPool pool) = refl
same_component_part (ComponentPartPoolBind bind) = refl
same_component_part (ComponentPartMembers members) = refl
same_component_part (ComponentPartEmpty place) = refl

pub same_item : (x : ItemTree) → map is_over (taken_item 0 x) ≡ map is_over (counts_item 0 x)
same_item (ItemComponent (MakeComponent component name left_brace parts right_brace)) =
    let c = counted 1 0 in
    ap (λ (u : List Bool). is_over c ∷ is_over c ∷ is_over c ∷ u) (over_both (flat_map (taken_component_part 1) parts) (flat_map (counts_component_part 1) parts) (c ∷ []) (c ∷ []) (over_list (taken_component_part 1) (counts_component_part 1) same_component_part parts) refl)
same_item (ItemObject object) = same_object 0 refl object
same_item (ItemEnum enum) = refl
same_item (ItemFunction function) = refl
same_item (ItemEmpty place) = refl
