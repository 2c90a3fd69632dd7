-- Which nodes stand in one, where nodes were only added elsewhere.
use Rattle.std.proofs.Common.{◌≡◌, ℕ, suc, ◌+◌, ◌<◌, List, [], ◌∷◌, map, length, Bool, true, false, cond, Option, Some, None, refl, sym, ap, ◌∙◌, subst, arith}
use Rattle.std.specs.Prelude.{slice_get}
use Rattle.std.specs.List.{enumerate_from, filter}
use Rattle.std.proofs.lemmas.Option.{none-some, same_Some}
use Rattle.std.proofs.lemmas.Bool.{false≢true, eqb-true}
use Rattle.pst_scen.specs.declared.tree.Node.{Node}
use Rattle.pst_scen.specs.Tree.{is_parent, IsChild}
use Rattle.pst_legal.specs.Statements.{children_of}
use Rattle.pst_slots.proofs.Children.{kids, kid_at}

abbrev with_kid : Bool → ℕ → List ℕ → List ℕ
with_kid true k ks = k ∷ ks
with_kid false k ks = ks

kids_next : (k : ℕ) (x : Node) (xs : List Node) (parent : ℕ) → kids k (x ∷ xs) parent ≡ with_kid (is_parent parent x.parent) k (kids (k + 1) xs parent)
kids_next k x xs parent = by (is_parent parent x.parent)
  where
    by : (b : Bool) → map (λ (e : ℕ × Node). e.0) (cond b ((k, x) ∷ filter (λ (e : ℕ × Node). is_parent parent e.1.parent) (enumerate_from (k + 1) xs)) (filter (λ (e : ℕ × Node). is_parent parent e.1.parent) (enumerate_from (k + 1) xs)))
        ≡ with_kid b k (kids (k + 1) xs parent)
    by true = refl
    by false = refl

in_it : (parent : ℕ) (of : Option ℕ) → is_parent parent of ≡ true → of ≡ Some parent
in_it parent None e = absurd (false≢true e)
in_it parent (Some p) e = ap Some (sym (eqb-true parent p e))

-- each old node stands in the same one
abbrev pub SameParents : List Node → List Node → Type 0
SameParents old new = (j : ℕ) (x : Node) → slice_get old j ≡ Some x → (y : Node) × (slice_get new j ≡ Some y) × (y.parent ≡ x.parent)

-- each node in that one is old
abbrev pub AreOld : List Node → List Node → ℕ → Type 0
AreOld old new parent = (j : ℕ) (y : Node) → slice_get new j ≡ Some y → y.parent ≡ Some parent → j < length old

pub same_kids : (k : ℕ) (old new : List Node) (parent : ℕ) → SameParents old new → AreOld old new parent → kids k new parent ≡ kids k old parent
same_kids k [] [] parent same old = refl
same_kids k (x ∷ xs) [] parent same old = absurd (none-some (same 0 x refl).0 (same 0 x refl).1)
same_kids k [] (y ∷ ys) parent same old =
    kids_next k y ys parent ∙ by (is_parent parent y.parent) refl ∙ same_kids (k + 1) [] ys parent (λ j x is. absurd (none-some x is)) (λ j z is in_parent. old_later (old (suc j) z is in_parent))
  where
    old_later : {A : Type 0} {j : ℕ} → suc j < 0 → A
    old_later l = absurd (omega (arith, l))

    by : (b : Bool) → is_parent parent y.parent ≡ b → with_kid b k (kids (k + 1) ys parent) ≡ kids (k + 1) ys parent
    by true e = absurd (let l = old 0 y refl (in_it parent y.parent e) in omega (arith, l))
    by false e = refl
same_kids k (x ∷ xs) (y ∷ ys) parent same old =
    kids_next k y ys parent
    ∙ ap (λ (o : Option ℕ). with_kid (is_parent parent o) k (kids (k + 1) ys parent)) first
    ∙ ap (with_kid (is_parent parent x.parent) k) (same_kids (k + 1) xs ys parent (λ j z is. same (suc j) z is) (λ j z is in_parent. let l = old (suc j) z is in_parent in omega (arith, l)))
    ∙ sym (kids_next k x xs parent)
  where
    first : y.parent ≡ x.parent
    first = let one = same 0 x refl in ap (λ (z : Node). z.parent) (same_Some y one.0 one.1) ∙ one.2

-- a node of the list stands in that one
pub kid_is : (nodes : List Node) (parent index n : ℕ) → slice_get (children_of nodes parent) index ≡ Some n → IsChild nodes n parent
kid_is nodes parent index n branch =
    let kid = kid_at 0 nodes parent index n branch in
    let same : kid.place ≡ n = omega (arith, kid.number) in
    record { node = kid.node; is = subst (λ k. slice_get nodes k ≡ Some kid.node) same kid.is; in_parent = kid.in_parent }
