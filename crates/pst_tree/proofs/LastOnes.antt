-- The last instances are found from the parents.
use Rattle.std.proofs.Common.{◌≡◌, ◌≤◌, ◌<◌, arith, refl, sym, subst, ap, ◌∙◌, append_assoc}
use Rattle.std.specs.Prelude.{ℕ, ◌+◌, Bool, true, false, List, [], ◌∷◌, ◌++◌, map, length, Option, Some, None, if◌then◌else◌}
use Rattle.std.proofs.lemmas.Bool.Decides.{nat_tests}
use Rattle.std.proofs.lemmas.List.{append-nil, length-append}
use Rattle.pst_base.specs.declared.table.NameId.{NameId}
use Rattle.pst_ast.specs.declared.instance.Instance.{Instance}
use Rattle.pst_ast.specs.declared.scope_declaration.Declaration.{Declaration}
use Rattle.pst_tree.specs.Instances.{instances_in, instance, IsSubtree, Subtree, AreSubtrees, NoSubtree, MoreSubtrees}
use Rattle.pst_tree.specs.Walked.{bare, AreOf}
use Rattle.pst_tree.specs.Lasts.{is_from, run_from, lasts_from}

from_there : (k parent : ℕ) → k ≤ parent → is_from k (Some parent) ≡ true
from_there k parent h = grind (arith, nat_tests)

before_there : (k parent : ℕ) → parent < k → is_from k (Some parent) ≡ false
before_there k parent h = grind (arith, nat_tests)

-- the first of these doesn't stand in the instance of a number, nor in one behind it
abbrev EndsBy : ℕ → Option ℕ → Type 0
EndsBy k None = Unit {0}
EndsBy k (Some parent) = parent < k

abbrev Ends : ℕ → List Instance → Type 0
Ends k [] = Unit {0}
Ends k (y ∷ more) = EndsBy k y.parent

later_by : (k m : ℕ) (parent : Option ℕ) → k ≤ m → EndsBy k parent → EndsBy m parent
later_by k m None h e = tt
later_by k m (Some parent) h e = omega (arith, h, e)

later_ends : (k m : ℕ) (zs : List Instance) → k ≤ m → Ends k zs → Ends m zs
later_ends k m [] h e = tt
later_ends k m (y ∷ more) h e = later_by k m y.parent h e

ended_by : (k : ℕ) (parent : Option ℕ) → EndsBy k parent → is_from k parent ≡ false
ended_by k None e = refl
ended_by k (Some parent) e = before_there k parent e

ended : (k : ℕ) (zs : List Instance) → Ends k zs → run_from k zs ≡ 0
ended k [] e = refl
ended k (y ∷ more) e = ap (λ (b : Bool). if b then run_from k more + 1 else 0) (ended_by k y.parent e)

joined : (first rest zs : List Instance) → map bare (first ++ rest) ++ zs ≡ map bare first ++ (map bare rest ++ zs)
joined [] rest zs = refl
joined (x ∷ first) rest zs = ap (λ (ws : List Instance). bare x ∷ ws) (joined first rest zs)

module _ (ds : List Declaration) where
  mutual
    subtree_run : (k : ℕ) (zs : List Instance) (number : ℕ) (component : Declaration) (name : NameId) (parent : ℕ) (xs : List Instance) → IsSubtree ds number component name (Some parent) xs → k ≤ parent → k ≤ number
        → run_from k (map bare xs ++ zs) ≡ length xs + run_from k zs
    subtree_run k zs number component name parent xs (Subtree _ _ _ _ below rest) from here =
        let more : run_from k (map bare below ++ zs) ≡ length below + run_from k zs = row_run k zs number (number + 1) (instances_in ds component) below rest here (omega (arith, here)) in
        let first : run_from k (map bare xs ++ zs) ≡ run_from k (map bare below ++ zs) + 1 = ap (λ (b : Bool). if b then run_from k (map bare below ++ zs) + 1 else 0) (from_there k parent from) in
        omega (arith, more, first)

    row_run : (k : ℕ) (zs : List Instance) (parent number : ℕ) (row : List Declaration) (xs : List Instance) → AreSubtrees ds parent number row xs → k ≤ parent → k ≤ number
        → run_from k (map bare xs ++ zs) ≡ length xs + run_from k zs
    row_run k zs parent number row xs (NoSubtree _ _) from here = omega arith
    row_run k zs parent number row xs (MoreSubtrees _ _ d component others first rest typed tree behind) from here =
        let one = subtree_run k (map bare rest ++ zs) number component d.name.id parent first tree from here in
        let more = row_run k zs parent (number + length first) others rest behind from (omega (arith, here)) in
        let all : run_from k (map bare (first ++ rest) ++ zs) ≡ run_from k (map bare first ++ (map bare rest ++ zs)) = ap (run_from k) (joined first rest zs) in
        omega (arith, all, one, more, length-append first rest)

  tree_ends : (k : ℕ) (ws : List Instance) (number : ℕ) (component : Declaration) (name : NameId) (parent : ℕ) (xs : List Instance) → IsSubtree ds number component name (Some parent) xs → parent < k → Ends k (map bare xs ++ ws)
  tree_ends k ws number component name parent xs (Subtree _ _ _ _ below rest) before = before

  row_ends : (k : ℕ) (zs : List Instance) (parent number : ℕ) (row : List Declaration) (xs : List Instance) → AreSubtrees ds parent number row xs → parent < k → Ends k zs → Ends k (map bare xs ++ zs)
  row_ends k zs parent number row xs (NoSubtree _ _) before e = e
  row_ends k zs parent number row xs (MoreSubtrees _ _ d component others first rest typed tree behind) before e =
      subst (Ends k) (sym (joined first rest zs)) (tree_ends k (map bare rest ++ zs) number component d.name.id parent first tree before)

  mutual
    subtree_lasts : (number : ℕ) (component : Declaration) (name : NameId) (parent : Option ℕ) (xs zs : List Instance) → IsSubtree ds number component name parent xs → Ends number zs
        → lasts_from number (map bare xs ++ zs) ≡ xs ++ lasts_from (number + length xs) zs
    subtree_lasts number component name parent xs zs (Subtree _ _ _ _ below rest) e =
        let behind = row_lasts number (number + 1) (instances_in ds component) below zs rest (omega arith) (later_ends number (number + 1) zs (omega arith) e) in
        let run : run_from number (map bare below ++ zs) ≡ length below = omega (arith, row_run number zs number (number + 1) (instances_in ds component) below rest (omega arith) (omega arith), ended number zs e) in
        let far : (number + 1) + length below ≡ number + length xs = omega arith in
        (λ i. instance name component parent (number + run i) ∷ behind i) ∙ ap (λ (n : ℕ). instance name component parent (number + length below) ∷ (below ++ lasts_from n zs)) far

    row_lasts : (parent number : ℕ) (row : List Declaration) (xs zs : List Instance) → AreSubtrees ds parent number row xs → parent < number → Ends number zs
        → lasts_from number (map bare xs ++ zs) ≡ xs ++ lasts_from (number + length xs) zs
    row_lasts parent number row xs zs (NoSubtree _ _) before e = ap (λ (n : ℕ). lasts_from n zs) (omega arith)
    row_lasts parent number row xs zs (MoreSubtrees _ _ d component others first rest typed tree behind) before e =
        let one = subtree_lasts number component d.name.id (Some parent) first (map bare rest ++ zs) tree (row_ends number zs parent (number + length first) others rest behind before e) in
        let more = row_lasts parent (number + length first) others rest zs behind (omega (arith, before)) (later_ends number (number + length first) zs (omega arith) e) in
        let far : (number + length first) + length rest ≡ number + length (first ++ rest) = omega (arith, length-append first rest) in
        ap (lasts_from number) (joined first rest zs) ∙ one ∙ ap (λ (ws : List Instance). first ++ ws) more ∙ sym (append_assoc first rest (lasts_from ((number + length first) + length rest) zs))
        ∙ ap (λ (n : ℕ). (first ++ rest) ++ lasts_from n zs) far

  pub lasts_are : (root : Declaration) (all listed : List Instance) → AreOf ds root all → map bare all ≡ listed → lasts_from 0 listed ≡ all
  lasts_are root all listed are e =
      ap (lasts_from 0) (sym e ∙ sym (append-nil (map bare all))) ∙ subtree_lasts 0 root root.name.id None all [] are tt ∙ append-nil all
