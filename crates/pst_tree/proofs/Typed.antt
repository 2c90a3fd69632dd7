-- Sources that keep the rules of names, and whose declared instances have components, have instances.
use Rattle.std.proofs.Common.{◌≡◌, ◌≤◌, arith, refl, sym, subst, ap, ◌∙◌, true≢false}
use Rattle.std.specs.Prelude.{ℕ, ◌<◌, List, map, length, is_some, IsTrue, Option, Some, None}
use Rattle.std.specs.List.{Contains}
use Rattle.std.proofs.lemmas.List.{length-map}
use Rattle.pst_ast.specs.declared.instance.Instance.{Instance}
use Rattle.pst_ast.specs.DeclarationTree.{UnitTree}
use Rattle.pst_ast.specs.declared.scope_declaration.Declaration.{Declaration}
use Rattle.pst_ast.specs.Breaches.{IsNone}
use Rattle.pst_ast.specs.Declarations.{declarations}
use Rattle.pst_ast.specs.Lookups.{type_of}
use Rattle.pst_ast.specs.NameRules.{NameBreach, OfDeclaration, Loops, Reaches}
use Rattle.pst_tree.specs.Instances.{root_of, AreInstances}
use Rattle.pst_tree.specs.Laws.{AreComponentsRight}
use Rattle.pst_tree.specs.Walked.{bare, AreOf}
use Rattle.pst_tree.specs.Lasts.{lasts_from}
use Rattle.pst_tree.specs.Found.{AreTyped, AreMany}
use Rattle.pst_tree.proofs.Declared.{is_there}
use Rattle.pst_tree.proofs.Existing.{instances_exist}
use Rattle.pst_tree.proofs.LastOnes.{lasts_are}
use Rattle.pst_tree.proofs.One.{same_found}

pub never_loops : (units : List UnitTree) (names : List (List ℕ)) → IsNone (NameBreach units names) → (d : Declaration) → Contains (declarations units) d → Reaches (declarations units) d d → ⊥
never_loops units names none d among back = none d.name.place 5 (OfDeclaration d 5 among (Loops back))

there : {A : Type 0} (o : Option A) → IsTrue (is_some o) → (x : A) × (o ≡ Some x)
there (Some x) is = (x, refl)
there None is = absurd (true≢false (sym is))

module _ (units : List UnitTree) (names : List (List ℕ)) (root : Declaration) (is : root_of names (declarations units) ≡ Some root) (typed : AreTyped (declarations units))
    (never : (d : Declaration) → Contains (declarations units) d → Reaches (declarations units) d d → ⊥) where
  abbrev ds : List Declaration
  ds = declarations units

  right : AreComponentsRight ds
  right = record {
    typed = λ d among sort. let k = is_there ds d among in there (type_of ds d) (typed k.0 d k.1 sort);
    no_loops = never;
  }

  all : (instances : List Instance) × AreInstances units names instances
  all = instances_exist units names root is right

  -- those of the root
  of_root : (instances : List Instance) (are : AreInstances units names instances) → AreOf ds root instances
  of_root instances are = subst (λ (r : Declaration). AreOf ds r instances) (same_found (root_of names ds) are.root root are.is_root is) are.subtree

  pub found_many : ((instances : List Instance) → AreOf ds root instances → 256 < length instances) → AreMany units names
  found_many many = record { instances = all.0; are = all.1; many = many all.0 (of_root all.0 all.1) }

  pub found_all : (listed found : List Instance) → ((instances : List Instance) → AreOf ds root instances → map bare instances ≡ listed) → found ≡ lasts_from 0 listed → AreInstances units names found
  found_all listed found walked lasts =
      subst (λ (xs : List Instance). AreInstances units names xs) (sym (lasts ∙ lasts_are ds root all.0 listed (of_root all.0 all.1) (walked all.0 (of_root all.0 all.1)))) all.1

  pub found_few : (listed found : List Instance) → ((instances : List Instance) → AreOf ds root instances → map bare instances ≡ listed) → found ≡ lasts_from 0 listed → length listed ≤ 256 → length found ≤ 256
  found_few listed found walked lasts few =
      let are = of_root all.0 all.1 in
      omega (arith, few, ap length (lasts ∙ lasts_are ds root all.0 listed are (walked all.0 are)), ap length (walked all.0 are), length-map all.0 bare)
