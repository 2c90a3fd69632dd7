-- Steps from a node to its parent.
use Rattle.std.proofs.Common.{◌≡◌, ◌<◌, ◌≤◌, ◌⊎◌, inl, inr, ℕ, List, length, get_or, Some, None, IsTrue, false, refl, ap, subst, sym, ◌∙◌, ◌↔◌, arith}
use Rattle.std.proofs.lemmas.Option.{slice_get-get_or}
use Rattle.pst_scen.specs.declared.tree.Node.{Node}
use Rattle.pst_scen.specs.declared.tree.Fill.TheVariants.{Leaf}
use Rattle.pst_scen.specs.Tree.{IsChild, StandsUnder, AtTop, Below, IsSequence, IsNearestSequence, Directly, Further}
use Rattle.pst_scen.specs.Laws.{IsPreorder}
use Rattle.pst_nodes.specs.Over.{IsLeafOf, Over}

pub not_true : IsTrue false → ⊥
not_true e = cc

pub same_some : {X : Type 0} (x y : X) → Some x ≡ Some y → x ≡ y
same_some x y e = ap (λ o. elim o [ Some z ↦ z | None ↦ x ]) e

-- a node has one parent
pub one_parent : (nodes : List Node) (n p q : ℕ) → IsChild nodes n p → IsChild nodes n q → p ≡ q
one_parent nodes n p q a b =
    let same : Some a.node ≡ Some b.node = sym a.is ∙ b.is in
    cc (a.in_parent, b.in_parent)

-- the parent that is read is the node's
pub child_read : (nodes : List Node) (n p : ℕ) (d : Node) → n < length nodes → (get_or nodes n d).parent ≡ Some p → IsChild nodes n p
child_read nodes n p d within has = record { node = get_or nodes n d; is = slice_get-get_or nodes n d within; in_parent = has }

-- a node that is read to have no parent stands in none
pub rootless : (nodes : List Node) (n p : ℕ) (d : Node) → n < length nodes → (get_or nodes n d).parent ≡ None → IsChild nodes n p → ⊥
rootless nodes n p d within has child =
    let same : child.node ≡ get_or nodes n d = same_some child.node (get_or nodes n d) (sym child.is ∙ slice_get-get_or nodes n d within) in
    let none : None ≡ Some p = sym has ∙ ap (λ (m : Node). m.parent) (sym same) ∙ child.in_parent in
    cc

pub parent_less : (nodes : List Node) (n p : ℕ) → IsPreorder nodes → IsChild nodes n p → p < n
parent_less nodes n p preorder child = preorder.parents n p child.node child.is child.in_parent

-- what is under a node's parent, or is under it, is under what the parent is under
pub under_up : (nodes : List Node) (top m n : ℕ) → StandsUnder nodes top m → StandsUnder nodes m n → StandsUnder nodes top n
under_up nodes top m _ upper AtTop = upper
under_up nodes top m _ upper (Below n parent under child) = Below n parent (under_up nodes top m parent upper under) child

-- a node over this one is this one, or is over its parent
pub up : (nodes : List Node) (n p top : ℕ) → IsChild nodes n p → StandsUnder nodes top n → (top ≡ n) ⊎ StandsUnder nodes top p
up nodes _ p top child AtTop = inl refl
up nodes _ p top child (Below n parent under other) = inr (subst (λ (q : ℕ). StandsUnder nodes top q) (one_parent nodes n parent p other child) under)

-- a node over one without a parent is this one
pub up_root : (nodes : List Node) (n top : ℕ) → ((p : ℕ) → IsChild nodes n p → ⊥) → StandsUnder nodes top n → top ≡ n
up_root nodes _ top none AtTop = refl
up_root nodes _ top none (Below n parent under child) = absurd (none parent child)

pub child_up : (nodes : List Node) (n p child top : ℕ) → IsChild nodes n p → (p ≡ top → ⊥) → IsChild nodes child top → StandsUnder nodes child n → StandsUnder nodes child p
child_up nodes n p child top of_p other of_top under = go (up nodes n p child of_p under)
  where
    go : (child ≡ n) ⊎ StandsUnder nodes child p → StandsUnder nodes child p
    go (inl same) = absurd (other (one_parent nodes n p top of_p (subst (λ (m : ℕ). IsChild nodes m top) same of_top)))
    go (inr above) = above

pub child_root : (nodes : List Node) (n child top : ℕ) → ((p : ℕ) → IsChild nodes n p → ⊥) → IsChild nodes child top → StandsUnder nodes child n → ⊥
child_root nodes n child top none of_top under = none top (subst (λ (m : ℕ). IsChild nodes m top) (up_root nodes n child none under) of_top)

pub nearest_up : (nodes : List Node) (n p top : ℕ) → IsChild nodes n p → (IsSequence nodes p → ⊥) → IsNearestSequence nodes top p ↔ IsNearestSequence nodes top n
nearest_up nodes n p top child not = (λ near. Further n p child not near, back n child)
  where
    back : (m : ℕ) → IsChild nodes m p → IsNearestSequence nodes top m → IsNearestSequence nodes top p
    back _ of_p (Directly m of_top sequence) = absurd (not (subst (λ (q : ℕ). IsSequence nodes q) (one_parent nodes m top p of_top of_p) sequence))
    back _ of_p (Further m parent of_parent other near) = subst (λ (q : ℕ). IsNearestSequence nodes top q) (one_parent nodes m parent p of_parent of_p) near

pub nearest_root : (nodes : List Node) (n top : ℕ) → ((p : ℕ) → IsChild nodes n p → ⊥) → IsNearestSequence nodes top n → ⊥
nearest_root nodes _ top none (Directly n child sequence) = none top child
nearest_root nodes _ top none (Further n parent child other near) = none parent child

pub leaf_read : (nodes : List Node) (act n : ℕ) (d : Node) → n < length nodes → IsLeafOf nodes act n → (get_or nodes n d).fill ≡ Leaf act
leaf_read nodes act n d within leaf =
    let same : leaf.node ≡ get_or nodes n d = same_some leaf.node (get_or nodes n d) (sym leaf.is ∙ slice_get-get_or nodes n d within) in
    subst (λ (m : Node). m.fill ≡ Leaf act) same leaf.of_act

pub leaf_is : (nodes : List Node) (act n : ℕ) (d : Node) → n < length nodes → (get_or nodes n d).fill ≡ Leaf act → IsLeafOf nodes act n
leaf_is nodes act n d within is = record { node = get_or nodes n d; is = slice_get-get_or nodes n d within; of_act = is }

-- a climb that looks for a node over n with a property
module _ (nodes : List Node) (P : ℕ → Type 0) where
  pub over_here : (n : ℕ) → P n → Over nodes P n
  over_here n has = record { top = n; under = AtTop; has = has }

  pub over_up : (n p : ℕ) → IsChild nodes n p → Over nodes P p → Over nodes P n
  over_up n p child over = record { top = over.top; under = Below n p over.under child; has = over.has }

  pub over_down : (n p : ℕ) → IsChild nodes n p → (P n → ⊥) → Over nodes P n → Over nodes P p
  over_down n p child not over = go (up nodes n p over.top child over.under)
    where
      go : (over.top ≡ n) ⊎ StandsUnder nodes over.top p → Over nodes P p
      go (inl same) = absurd (not (subst P same over.has))
      go (inr above) = record { top = over.top; under = above; has = over.has }

  pub over_root : (n : ℕ) → ((p : ℕ) → IsChild nodes n p → ⊥) → (P n → ⊥) → Over nodes P n → ⊥
  over_root n none not over = not (subst P (up_root nodes n over.top none over.under) over.has)

-- a node has one nearest sequence
pub one_nearest : (nodes : List Node) (x y n : ℕ) → IsNearestSequence nodes x n → IsNearestSequence nodes y n → x ≡ y
one_nearest nodes x y _ (Directly n child sequence) near = go n child near
  where
    go : (m : ℕ) → IsChild nodes m x → IsNearestSequence nodes y m → x ≡ y
    go _ first (Directly m other _) = one_parent nodes m x y first other
    go _ first (Further m parent other not _) = absurd (not (subst (λ (q : ℕ). IsSequence nodes q) (one_parent nodes m x parent first other) sequence))
one_nearest nodes x y _ (Further n parent child not near) other =
    one_nearest nodes x y parent near ((nearest_up nodes n parent y child not).1 other)

pub under_le : (nodes : List Node) (top n : ℕ) → IsPreorder nodes → StandsUnder nodes top n → top ≤ n
under_le nodes top _ preorder AtTop = omega arith
under_le nodes top _ preorder (Below n parent under child) =
    let upper : top ≤ parent = under_le nodes top parent preorder under in
    let lower : parent < n = parent_less nodes n parent preorder child in
    omega arith

-- one child of a node is over n
pub one_child : (nodes : List Node) (top x y n : ℕ) → IsPreorder nodes → IsChild nodes x top → IsChild nodes y top → StandsUnder nodes x n → StandsUnder nodes y n → x ≡ y
one_child nodes top x y _ preorder first second AtTop over_y = go over_y
  where
    go : StandsUnder nodes y x → x ≡ y
    go under = below_same x refl under
      where
        below_same : (m : ℕ) → m ≡ x → StandsUnder nodes y m → x ≡ y
        below_same _ same AtTop = sym same
        below_same _ same (Below m parent above child) =
            let over : y ≤ parent = under_le nodes y parent preorder above in
            let parent_is : parent ≡ top = one_parent nodes x parent top (subst (λ (k : ℕ). IsChild nodes k parent) same child) first in
            let less : top < y = parent_less nodes y top preorder second in
            absurd (omega (arith, over, parent_is, less))
one_child nodes top x y _ preorder first second (Below n parent under child) over_y = go (one_child nodes top x y parent preorder first second under) (up nodes n parent y child over_y)
  where
    go : (StandsUnder nodes y parent → x ≡ y) → (y ≡ n) ⊎ StandsUnder nodes y parent → x ≡ y
    go upper (inr above) = upper above
    go upper (inl same) =
        let over : x ≤ parent = under_le nodes x parent preorder under in
        let parent_is : parent ≡ top = one_parent nodes n parent top child (subst (λ (k : ℕ). IsChild nodes k top) same second) in
        let less : top < x = parent_less nodes x top preorder first in
        absurd (omega (arith, over, parent_is, less))
