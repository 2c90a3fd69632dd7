-- Nodes of a filled-in activity, and what stands under them.
use Rattle.std.proofs.Common.{◌≡◌, ℕ, ◌<◌, ◌≤◌, List, sym, ◌∙◌, subst, arith, inl, inr}
use Rattle.std.specs.Prelude.{◌⊎◌, Some}
use Rattle.pst_scen.specs.declared.tree.Node.{Node}
use Rattle.pst_scen.specs.Tree.{IsChild, StandsUnder, AtTop, Below, Contains-act}
use Rattle.pst_scen.specs.Laws.{IsPreorder, HasOneLeafEach, BeforeIsNeverItself}

-- a node has one parent
pub one_parent : (nodes : List Node) (n p q : ℕ) → IsChild nodes n p → IsChild nodes n q → p ≡ q
one_parent nodes n p q a b =
    let same : Some a.node ≡ Some b.node = sym a.is ∙ b.is in
    cc (a.in_parent, b.in_parent)

-- a node stands before what is under it
pub under_le : (nodes : List Node) (top n : ℕ) → IsPreorder nodes → StandsUnder nodes top n → top ≤ n
under_le nodes top _ preorder AtTop = omega arith
under_le nodes top _ preorder (Below n parent under child) =
    let upper : top ≤ parent = under_le nodes top parent preorder under in
    let lower : parent < n = preorder.parents n parent child.node child.is child.in_parent in
    omega arith

-- of two nodes over one, one stands under the other
pub one_over_other : (nodes : List Node) (x y n : ℕ) → StandsUnder nodes x n → StandsUnder nodes y n → StandsUnder nodes x y ⊎ StandsUnder nodes y x
one_over_other nodes x y _ AtTop below_y = inr below_y
one_over_other nodes x y _ (Below n parent under child) below_y = over (λ z. one_over_other nodes x z parent under) y below_y
  where
    over : ((z : ℕ) → StandsUnder nodes z parent → StandsUnder nodes x z ⊎ StandsUnder nodes z x) → (z : ℕ) → StandsUnder nodes z n → StandsUnder nodes x z ⊎ StandsUnder nodes z x
    over upper _ AtTop = inl (Below n parent under child)
    over upper z (Below _ other above below) =
        let same : other ≡ parent = one_parent nodes n other parent below child in
        upper z (subst (λ p. StandsUnder nodes z p) same above)

-- the children of one node don't stand under each other
pub apart : (nodes : List Node) (top x y : ℕ) → IsPreorder nodes → IsChild nodes x top → IsChild nodes y top → x < y → StandsUnder nodes x y → ⊥
apart nodes top x _ preorder first second order AtTop = absurd (omega arith)
apart nodes top x _ preorder first second order (Below y parent under child) =
    let same : parent ≡ top = one_parent nodes y parent top child second in
    let upper : x ≤ parent = under_le nodes x parent preorder under in
    let lower : top < x = preorder.parents x top first.node first.is first.in_parent in
    omega arith

-- one action's leaf doesn't stand under two children of one node
pub one_leaf : (nodes : List Node) (top x y act : ℕ) → IsPreorder nodes → HasOneLeafEach nodes → IsChild nodes x top → IsChild nodes y top → x < y → Contains-act nodes x act → Contains-act nodes y act → ⊥
one_leaf nodes top x y act preorder leaves first second order inside other =
    let same : other.leaf ≡ inside.leaf = leaves.one other.leaf inside.leaf act other.node inside.node other.is inside.is other.of_act inside.of_act in
    let under : StandsUnder nodes y inside.leaf = subst (λ n. StandsUnder nodes y n) same other.under in
    either (one_over_other nodes x y inside.leaf inside.under under)
  where
    either : StandsUnder nodes x y ⊎ StandsUnder nodes y x → ⊥
    either (inl below) = apart nodes top x y preorder first second order below
    either (inr below) = let le : y ≤ x = under_le nodes y x preorder below in omega arith

pub before_itself : BeforeIsNeverItself
before_itself s a preorder leaves before =
    let e = before.earlier in
    one_leaf s.nodes before.sequence e.earlier e.later a preorder leaves e.earlier_child e.later_child e.order e.a_inside e.b_inside
