-- What elaboration finds, part by part.
use Rattle.std.proofs.Common.{◌≡◌, ℕ, List, map, ap, sym, ◌∙◌}
use Rattle.pst_ast.specs.DeclarationTree.{UnitTree}
use Rattle.pst_ast.specs.declared.instance.Instance.{Instance}
use Rattle.pst_model.specs.ModelTree.{ModelTree}
use Rattle.pst_elab_rules.specs.Ends.{IsElaborated}
use Rattle.pst_elab_rules.specs.Model.{IsModel, model_by}
use Rattle.pst_field_domains.specs.Kept.{HasDomains, KeptDomains}
use Rattle.pst_source_rules.specs.Judged.{IsJudged}
use Rattle.pst_source_rules.specs.declared.judged.Judged.{Judged}
use Rattle.pst_sources.specs.Shown.{with_constants}
use Rattle.pst_terms.specs.Sources.{Sources}
use Rattle.pst_tree.specs.Instances.{AreInstances}
use Rattle.pst_type_rules.specs.Sites.{DeclaredField, fields}
use Rattle.pst_type_rules.specs.Typed.{AreConstants}
use Rattle.pst_type_rules.specs.declared.typed.ConstantValue.{ConstantValue}

module _ (units : List UnitTree) (names : List (List ℕ)) where
  pub elaborated : (component action : List ℕ) (j : Judged) (model : ModelTree) → IsJudged units names component action j → IsModel units names model → IsElaborated units names component action model j.root
  elaborated component action j model judged is =
      record { typed = judged.typed; instances = j.tree.instances; are = judged.instances; few = judged.few; last = judged.last; is_model = is; is_root = judged.is_root }

  pub is_model : (s : Sources) (constants : List ConstantValue) (instances laid : List Instance) (domains : KeptDomains) (model : ModelTree) → AreConstants units names constants → AreInstances units names instances
      → HasDomains units names domains → s ≡ with_constants units names constants → laid ≡ instances → model ≡ model_by s domains.domains laid → IsModel units names model
  is_model s constants instances laid domains model known are has same found is =
      record {
        constants = constants;
        are_constants = known;
        domains = domains.domains;
        are_domains = has.domains;
        instances = instances;
        are_instances = are;
        is = is ∙ (λ i. model_by (same i) domains.domains (found i));
      }

pub places_are : (s t : Sources) (domains : KeptDomains) → HasDomains t.units t.names domains → s ≡ t → domains.places ≡ map (λ (f : DeclaredField). f.name.place) (fields s.units)
places_are s t domains has same = has.places ∙ ap (λ (x : Sources). map (λ (f : DeclaredField). f.name.place) (fields x.units)) (sym same)
