-- What is found within some depth are the instances.
use Rattle.std.proofs.Common.{◌≡◌, refl, subst}
use Rattle.std.specs.Prelude.{ℕ, zero, suc, ◌+◌, List, [], ◌∷◌, ◌++◌, length, Option, Some, None}
use Rattle.std.specs.Option.{option_map, option_and_then}
use Rattle.pst_base.specs.declared.table.NameId.{NameId}
use Rattle.pst_ast.specs.declared.instance.Instance.{Instance}
use Rattle.pst_ast.specs.DeclarationTree.{UnitTree}
use Rattle.pst_ast.specs.declared.scope_declaration.Declaration.{Declaration}
use Rattle.pst_ast.specs.Declarations.{declarations}
use Rattle.pst_ast.specs.Lookups.{type_of}
use Rattle.pst_tree.specs.Instances.{root_of, instances_in, IsSubtree, Subtree, AreSubtrees, NoSubtree, MoreSubtrees, AreInstances}
use Rattle.pst_tree.specs.Steps.{with_those_below, row_within, subtree_within, instances_within}
use Rattle.pst_tree.proofs.One.{some_is}

abbrev IsMissing : {A : Type 0} → Option A → Type 0
IsMissing None = Unit {0}
IsMissing (Some x) = ⊥

pub is_missing : {A : Type 0} (x : A) → None ≡ Some x → ⊥
is_missing x e = subst IsMissing e tt

-- what a step gave, and what came of it
pub and_then_gave : {A B : Type 0} (f : A → Option B) (o : Option A) (y : B) → option_and_then f o ≡ Some y → (x : A) × (o ≡ Some x) × (f x ≡ Some y)
and_then_gave f None y e = absurd (is_missing y e)
and_then_gave f (Some x) y e = (x, refl, e)

pub map_gave : {A B : Type 0} (f : A → B) (o : Option A) (y : B) → option_map f o ≡ Some y → (x : A) × (o ≡ Some x) × (f x ≡ y)
map_gave f None y e = absurd (is_missing y e)
map_gave f (Some x) y e = (x, refl, some_is (f x) y e)

module _ (ds : List Declaration) where
  -- what is found so is a subtree
  abbrev Finds : (ℕ → Declaration → NameId → Option ℕ → Option (List Instance)) → Type 0
  Finds one = (number : ℕ) (component : Declaration) (name : NameId) (parent : Option ℕ) (xs : List Instance) → one number component name parent ≡ Some xs → IsSubtree ds number component name parent xs

  row_found : (one : ℕ → Declaration → NameId → Option ℕ → Option (List Instance)) → Finds one → (parent number : ℕ) (row : List Declaration) (xs : List Instance)
      → row_within one ds parent number row ≡ Some xs → AreSubtrees ds parent number row xs
  row_found one finds parent number [] xs e = subst (λ (ys : List Instance). AreSubtrees ds parent number [] ys) (some_is [] xs e) (NoSubtree parent number)
  row_found one finds parent number (d ∷ more) xs e =
      let outer = and_then_gave (λ first. option_map (λ rest. first ++ rest) (row_within one ds parent (number + length first) more)) (option_and_then (λ component. one number component d.name.id (Some parent)) (type_of ds d)) xs e in
      let inner = and_then_gave (λ component. one number component d.name.id (Some parent)) (type_of ds d) outer.0 outer.1 in
      let behind = map_gave (λ rest. outer.0 ++ rest) (row_within one ds parent (number + length outer.0) more) xs outer.2 in
      subst (λ (ys : List Instance). AreSubtrees ds parent number (d ∷ more) ys) behind.2
      (MoreSubtrees parent number d inner.0 more outer.0 behind.0 inner.1 (finds number inner.0 d.name.id (Some parent) outer.0 inner.2)
      (row_found one finds parent (number + length outer.0) more behind.0 behind.1))

  subtree_found : (depth : ℕ) → Finds (subtree_within depth ds)
  subtree_found zero number component name parent xs e = absurd (is_missing xs e)
  subtree_found (suc depth) number component name parent xs e =
      let below = map_gave (with_those_below name component parent number) (row_within (subtree_within depth ds) ds number (number + 1) (instances_in ds component)) xs e in
      subst (λ (ys : List Instance). IsSubtree ds number component name parent ys) below.2
      (Subtree number component name parent below.0 (row_found (subtree_within depth ds) (subtree_found depth) number (number + 1) (instances_in ds component) below.0 below.1))

pub instances_found : (depth : ℕ) (units : List UnitTree) (names : List (List ℕ)) (instances : List Instance) → instances_within depth units names ≡ Some instances → AreInstances units names instances
instances_found depth units names instances e =
    let root = and_then_gave (λ root. subtree_within depth (declarations units) 0 root root.name.id None) (root_of names (declarations units)) instances e in
    record { root = root.0; is_root = root.1; subtree = subtree_found (declarations units) depth 0 root.0 root.0.name.id None instances root.2 }
