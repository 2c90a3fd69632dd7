-- The parts of a sound model put together.
use Rattle.std.proofs.Common.{◌≡◌, ◌≤◌, refl, ap, arith, ◌∙◌}
use Rattle.std.specs.Prelude.{ℕ, List, length}
use Rattle.std.proofs.lemmas.List.{length-map}
use Rattle.pst_ast.specs.declared.instance.Instance.{Instance}
use Rattle.pst_ast.specs.DeclarationTree.{UnitTree}
use Rattle.pst_model.specs.Limits.{most_instances}
use Rattle.pst_model.specs.ActivityTree.{ActivityTree}
use Rattle.pst_model.specs.BodyTree.{BodyStepTree}
use Rattle.pst_model.specs.ModelTree.{ContentTree, Atomic, Compound, ActionTree, ModelTree}
use Rattle.pst_model.specs.Sound.{IsSoundCompound, IsSoundContent}
use Rattle.pst_model.specs.SoundActivity.{IsSoundActivity}
use Rattle.pst_model.specs.SoundBody.{IsSoundBody}
use Rattle.pst_tree.specs.Instances.{part_of}
use Rattle.pst_tree.specs.Laws.{InstancesAreOne}
use Rattle.pst_elab_rules.specs.Ends.{IsElaborated}

-- what an action does is sound, by what it is
pub content_sound : (model : ModelTree) (action : ActionTree) → ((body : List BodyStepTree) → action.content ≡ Atomic body → IsSoundBody model action body)
    → ((activity : ActivityTree) → action.content ≡ Compound activity → IsSoundCompound action × IsSoundActivity model action activity) → IsSoundContent model action action.content
content_sound model action atomic compound = by action.content refl
  where
    by : (c : ContentTree) → action.content ≡ c → IsSoundContent model action c
    by (Atomic body) e = atomic body e
    by (Compound activity) e = compound activity e

-- no model of sources that are elaborated has too many instances
pub few_instances : InstancesAreOne → (units : List UnitTree) (names : List (List ℕ)) (component action : List ℕ) (model : ModelTree) (root : ℕ) → IsElaborated units names component action model root → length model.instances ≤ most_instances
few_instances one units names component action model root e =
    let same : e.is_model.instances ≡ e.instances = one units names e.is_model.instances e.instances e.is_model.are_instances e.are in
    let many : length model.instances ≡ length e.is_model.instances = ap (λ (m : ModelTree). length m.instances) e.is_model.is ∙ length-map e.is_model.instances part_of in
    let equal : length e.is_model.instances ≡ length e.instances = ap (λ (xs : List Instance). length xs) same in
    omega (arith, many, equal, e.few)
