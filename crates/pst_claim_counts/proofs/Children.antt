-- Nodes and what stands under them.
use Rattle.std.proofs.Common.{◌≡◌, ℕ, ◌<◌, ◌≤◌, List, length, get_or, Some, sym, ◌∙◌, subst, arith, inl, inr}
use Rattle.std.specs.Prelude.{◌⊎◌, slice_get}
use Rattle.std.proofs.lemmas.Option.{slice_get-get_or}
use Rattle.pst_scen.specs.declared.tree.Node.{Node}
use Rattle.pst_scen.specs.Tree.{IsChild, StandsUnder, AtTop, Below, Contains-act}
use Rattle.pst_scen.specs.Laws.{IsPreorder, HasOneLeafEach}

one_parent : (nodes : List Node) (n p q : ℕ) → IsChild nodes n p → IsChild nodes n q → p ≡ q
one_parent nodes n p q a b =
    let same : Some a.node ≡ Some b.node = sym a.is ∙ b.is in
    cc (a.in_parent, b.in_parent)

under_le : (nodes : List Node) (top n : ℕ) → IsPreorder nodes → StandsUnder nodes top n → top ≤ n
under_le nodes top _ preorder AtTop = omega arith
under_le nodes top _ preorder (Below n parent under child) =
    let upper : top ≤ parent = under_le nodes top parent preorder under in
    let lower : parent < n = preorder.parents n parent child.node child.is child.in_parent in
    omega arith

-- of two nodes over one, one stands under the other
one_over_other : (nodes : List Node) (x y n : ℕ) → StandsUnder nodes x n → StandsUnder nodes y n → StandsUnder nodes x y ⊎ StandsUnder nodes y x
one_over_other nodes x y _ AtTop below_y = inr below_y
one_over_other nodes x y _ (Below n parent under child) below_y = over (λ z. one_over_other nodes x z parent under) y below_y
  where
    over : ((z : ℕ) → StandsUnder nodes z parent → StandsUnder nodes x z ⊎ StandsUnder nodes z x) → (z : ℕ) → StandsUnder nodes z n → StandsUnder nodes x z ⊎ StandsUnder nodes z x
    over upper _ AtTop = inl (Below n parent under child)
    over upper z (Below _ other above below) =
        let same : other ≡ parent = one_parent nodes n other parent below child in
        upper z (subst (λ p. StandsUnder nodes z p) same above)

-- the children of one node don't stand under each other
apart : (nodes : List Node) (top x y : ℕ) → IsPreorder nodes → IsChild nodes x top → IsChild nodes y top → x < y → StandsUnder nodes x y → ⊥
apart nodes top x _ preorder first second order AtTop = absurd (omega arith)
apart nodes top x _ preorder first second order (Below y parent under child) =
    let same : parent ≡ top = one_parent nodes y parent top child second in
    let upper : x ≤ parent = under_le nodes x parent preorder under in
    let lower : top < x = preorder.parents x top first.node first.is first.in_parent in
    omega arith

-- one action's leaf doesn't stand under two children of one node
pub one_leaf : (nodes : List Node) (top x y act : ℕ) → IsPreorder nodes → HasOneLeafEach nodes → IsChild nodes x top → IsChild nodes y top → x < y → Contains-act nodes x act → Contains-act nodes y act → ⊥
one_leaf nodes top x y act preorder leaves first second order inside other =
    let same : other.leaf ≡ inside.leaf = leaves.one other.leaf inside.leaf act other.node inside.node other.is inside.is other.of_act inside.of_act in
    let under : StandsUnder nodes y inside.leaf = subst (λ n. StandsUnder nodes y n) same other.under in
    either (one_over_other nodes x y inside.leaf inside.under under)
  where
    either : StandsUnder nodes x y ⊎ StandsUnder nodes y x → ⊥
    either (inl below) = apart nodes top x y preorder first second order below
    either (inr below) = let le : y ≤ x = under_le nodes y x preorder below in omega arith

-- what stands under a node stands under its parent
under_up : (nodes : List Node) (top n leaf : ℕ) → IsChild nodes n top → StandsUnder nodes n leaf → StandsUnder nodes top leaf
under_up nodes top n _ child AtTop = Below n top AtTop child
under_up nodes top n _ child (Below leaf parent under of) = Below leaf parent (under_up nodes top n parent child under) of

pub inside_up : (nodes : List Node) (top n act : ℕ) → IsChild nodes n top → Contains-act nodes n act → Contains-act nodes top act
inside_up nodes top n act child inside = record { leaf = inside.leaf; node = inside.node; is = inside.is; of_act = inside.of_act; under = under_up nodes top n inside.leaf child inside.under }

-- the parent that is read is the node's
pub child_read : (nodes : List Node) (n p : ℕ) (d : Node) → n < length nodes → (get_or nodes n d).parent ≡ Some p → IsChild nodes n p
child_read nodes n p d within has = record { node = get_or nodes n d; is = slice_get-get_or nodes n d within; in_parent = has }
