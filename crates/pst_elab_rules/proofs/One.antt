-- Sources have at most one model, and at most one first breach.
use Rattle.std.proofs.Common.{◌≡◌, refl, sym, subst, ap, arith, ◌∙◌}
use Rattle.std.specs.Prelude.{ℕ, List, ◌∷◌, length, Some}
use Rattle.std.specs.Option.{unwrap_or}
use Rattle.pst_base.specs.declared.position.Place.{Place}
use Rattle.pst_base.specs.Laws.{NoneIsBeforeItself, BeforeGoesOn}
use Rattle.pst_ast.specs.declared.instance.Instance.{Instance}
use Rattle.pst_ast.specs.DeclarationTree.{UnitTree}
use Rattle.pst_expr.specs.declared.ranges.Span.{Span}
use Rattle.pst_model.specs.ModelTree.{ModelTree}
use Rattle.pst_ast.specs.Breaches.{IsLeast}
use Rattle.pst_ast.specs.NameRules.{NameBreach}
use Rattle.pst_ast.proofs.Least.{least_is_one}
use Rattle.pst_type_rules.specs.ConstantsLaws.{TypesHaveOneDomain}
use Rattle.pst_type_rules.specs.declared.typed.ConstantValue.{ConstantValue}
use Rattle.pst_type_rules.specs.Laws.{ConstantsAreOne}
use Rattle.pst_type_rules.specs.Sites.{DeclaredField, fields}
use Rattle.pst_type_rules.specs.TypeRules.{TypeBreach}
use Rattle.pst_tree.specs.Instances.{AreInstances}
use Rattle.pst_tree.specs.Laws.{InstancesAreOne}
use Rattle.pst_elab_rules.specs.Spans.{AreDomains, NoDomain, MoreDomains}
use Rattle.pst_elab_rules.specs.Model.{IsModel, model_by, sources}
use Rattle.pst_elab_rules.specs.Ends.{IsFirstBreach, InNames, InTypes, AtLast, LastBreach, HasMany, IsElaborated, root_number}

-- ---- models

domains_are_one : TypesHaveOneDomain → (units : List UnitTree) (names : List (List ℕ)) (fs : List DeclaredField) (xs ys : List (List Span)) → AreDomains units names fs xs → AreDomains units names fs ys
    → xs ≡ ys
domains_are_one law units names fs xs ys NoDomain NoDomain = refl
domains_are_one law units names fs xs ys (MoreDomains f more x xs' one rest) (MoreDomains _ _ y ys' other others) =
    let heads : x ≡ y = law units names f.at f.type x y one other in
    let tails : xs' ≡ ys' = domains_are_one law units names more xs' ys' rest others in
    λ i. heads i ∷ tails i

models_by : (units : List UnitTree) (names : List (List ℕ)) (cs ds : List ConstantValue) (xs ys : List (List Span)) (is js : List Instance) → cs ≡ ds → xs ≡ ys → is ≡ js
    → model_by (sources units names cs) xs is ≡ model_by (sources units names ds) ys js
models_by units names cs ds xs ys is js c d e = λ i. model_by (sources units names (c i)) (d i) (e i)

pub models_are_one : ConstantsAreOne → TypesHaveOneDomain → InstancesAreOne → (units : List UnitTree) (names : List (List ℕ)) (model other : ModelTree) → IsModel units names model → IsModel units names other
    → model ≡ other
models_are_one constants domains instances units names model other one two =
    one.is
    ∙ (models_by units names one.constants two.constants one.domains two.domains one.instances two.instances (constants units names one.constants two.constants one.are_constants two.are_constants)
    (domains_are_one domains units names (fields units) one.domains two.domains one.are_domains two.are_domains) (instances units names one.instances two.instances one.are_instances two.are_instances)
    ∙ sym two.is)

-- ---- breaches

module _ (never : NoneIsBeforeItself) (on : BeforeGoesOn) (instances : InstancesAreOne) (units : List UnitTree) (names : List (List ℕ)) (component action : List ℕ) where
  pub first_breaches_are_one : (p q : Place) (r s : ℕ) → IsFirstBreach units names component action p r → IsFirstBreach units names component action q s → (p ≡ q) × (r ≡ s)
  first_breaches_are_one p q r s (InNames one) (InNames other) = least_is_one never on (NameBreach units names) p q r s one other
  first_breaches_are_one p q r s (InNames one) (InTypes none other) = absurd (none p r one.is)
  first_breaches_are_one p q r s (InNames one) (AtLast _ typed _ _ other) = absurd (typed.names_right p r one.is)
  first_breaches_are_one p q r s (InTypes none one) (InNames other) = absurd (none q s other.is)
  first_breaches_are_one p q r s (InTypes none one) (InTypes also other) = least_is_one never on (TypeBreach units names) p q r s one other
  first_breaches_are_one p q r s (InTypes none one) (AtLast _ typed _ _ other) = absurd (typed.types_right p r one.is)
  first_breaches_are_one p q r s (AtLast _ typed _ _ one) (InNames other) = absurd (typed.names_right q s other.is)
  first_breaches_are_one p q r s (AtLast _ typed _ _ one) (InTypes none other) = absurd (typed.types_right q s other.is)
  first_breaches_are_one p q r s (AtLast xs typed are few one) (AtLast ys also these little other) =
      least_is_one never on (LastBreach units names xs component action) p q r s one
      (subst (λ (zs : List Instance). IsLeast (LastBreach units names zs component action) q s) (instances units names ys xs these are) other)

-- ---- answers

some_is : {A : Type 0} (x y : A) → Some x ≡ Some y → x ≡ y
some_is x y e = ap (λ o. unwrap_or o x) e

module _ (instances : InstancesAreOne) (units : List UnitTree) (names : List (List ℕ)) (component action : List ℕ) where
  same_length : (xs ys : List Instance) → AreInstances units names xs → AreInstances units names ys → length xs ≡ length ys
  same_length xs ys one other = ap length (instances units names xs ys one other)

  pub no_breach : (model : ModelTree) (root : ℕ) (place : Place) (rule : ℕ) → IsElaborated units names component action model root → IsFirstBreach units names component action place rule → ⊥
  no_breach model root place rule is (InNames least) = is.typed.names_right place rule least.is
  no_breach model root place rule is (InTypes none least) = is.typed.types_right place rule least.is
  no_breach model root place rule is (AtLast xs typed are few least) =
      is.last place rule (subst (λ (zs : List Instance). LastBreach units names zs component action place rule) (instances units names xs is.instances are is.are) least.is)

  pub not_many : (model : ModelTree) (root : ℕ) → IsElaborated units names component action model root → HasMany units names → ⊥
  not_many model root is has = omega (arith, is.few, has.many, same_length is.instances has.instances is.are has.are)

  pub many_alone : (place : Place) (rule : ℕ) → HasMany units names → IsFirstBreach units names component action place rule → ⊥
  many_alone place rule has (InNames least) = has.typed.names_right place rule least.is
  many_alone place rule has (InTypes none least) = has.typed.types_right place rule least.is
  many_alone place rule has (AtLast xs typed are few least) = omega (arith, few, has.many, same_length xs has.instances are has.are)

  pub same_root : (root number : ℕ) (xs ys : List Instance) → AreInstances units names xs → AreInstances units names ys → root_number units names xs component action ≡ Some root
      → root_number units names ys component action ≡ Some number → root ≡ number
  same_root root number xs ys one other a b =
      some_is root number (sym a ∙ (ap (λ (zs : List Instance). root_number units names zs component action) (instances units names xs ys one other) ∙ b))
