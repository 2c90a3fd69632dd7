-- Sources have at most one list of instances.
use Rattle.std.proofs.Common.{◌≡◌, refl, sym, subst, ap, ◌∙◌}
use Rattle.std.specs.Prelude.{ℕ, ◌+◌, List, ◌∷◌, ◌++◌, length, Option, Some, None}
use Rattle.std.specs.Option.{unwrap_or}
use Rattle.pst_base.specs.declared.table.NameId.{NameId}
use Rattle.pst_ast.specs.declared.instance.Instance.{Instance}
use Rattle.pst_ast.specs.DeclarationTree.{UnitTree}
use Rattle.pst_ast.specs.declared.scope_declaration.Declaration.{Declaration}
use Rattle.pst_ast.specs.Declarations.{declarations}
use Rattle.pst_tree.specs.Instances.{instance, IsSubtree, Subtree, AreSubtrees, NoSubtree, MoreSubtrees, AreInstances}

pub some_is : {A : Type 0} (x y : A) → Some x ≡ Some y → x ≡ y
some_is x y e = ap (λ o. unwrap_or o x) e

pub same_found : {A : Type 0} (o : Option A) (x y : A) → o ≡ Some x → o ≡ Some y → x ≡ y
same_found o x y p q = some_is x y (sym p ∙ q)

module _ (ds : List Declaration) where
  mutual
    pub subtree_is_one : (number : ℕ) (component : Declaration) (name : NameId) (parent : Option ℕ) (xs ys : List Instance) → IsSubtree ds number component name parent xs
        → IsSubtree ds number component name parent ys → xs ≡ ys
    subtree_is_one number component name parent xs ys (Subtree _ _ _ _ below one) (Subtree _ _ _ _ others other) =
        ap (λ (zs : List Instance). instance name component parent (number + length zs) ∷ zs) (subtrees_are_one number (number + 1) _ below others one other)

    subtrees_are_one : (parent number : ℕ) (row : List Declaration) (xs ys : List Instance) → AreSubtrees ds parent number row xs → AreSubtrees ds parent number row ys → xs ≡ ys
    subtrees_are_one parent number row xs ys (NoSubtree _ _) (NoSubtree _ _) = refl
    subtrees_are_one parent number row xs ys (MoreSubtrees _ _ d component more first rest typed tree behind) (MoreSubtrees _ _ _ another _ second last retyped other beyond) =
        let same : another ≡ component = same_found _ another component retyped typed in
        let firsts : first ≡ second = subtree_is_one number component d.name.id (Some parent) first second tree (subst (λ (c : Declaration). IsSubtree ds number c d.name.id (Some parent) second) same other) in
        let rests : rest ≡ last =
        subtrees_are_one parent (number + length first) more rest last behind (subst (λ (zs : List Instance). AreSubtrees ds parent (number + length zs) more last) (sym firsts) beyond) in
        λ i. firsts i ++ rests i

pub instances_are_one : (units : List UnitTree) (names : List (List ℕ)) (instances others : List Instance) → AreInstances units names instances → AreInstances units names others → instances ≡ others
instances_are_one units names instances others one other =
    let same : other.root ≡ one.root = same_found _ other.root one.root other.is_root one.is_root in
    subtree_is_one (declarations units) 0 one.root one.root.name.id None instances others one.subtree
    (subst (λ (c : Declaration). IsSubtree (declarations units) 0 c c.name.id None others) same other.subtree)
