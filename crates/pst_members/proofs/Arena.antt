-- What nodes find stays as nodes are added.
use Rattle.std.proofs.Common.{◌≡◌, ℕ, zero, suc, ◌<◌, ◌/◌, ◌%◌, Bool, true, false, List, [], ◌∷◌, ◌++◌, length, nat_eq, refl, ap, ◌∙◌, cond, Option, arith, subst}
use Rattle.std.specs.Prelude.{Some, None, slice_get}
use Rattle.std.specs.Option.{option_and_then}
use Rattle.pst_members.specs.declared.node.Node.{Node}
use Rattle.pst_members.specs.declared.node.Node.TheVariants.{Empty, Leaf, Branch}
use Rattle.pst_members.specs.Nodes.{at_node, found_within, found_from, AreNodes}
use Rattle.pst_members.specs.Found.{StandsBelow}

either : (b : Bool) (m n k : ℕ) → m < k → n < k → cond b m n < k
either true m n k p q = p
either false m n k p q = q

get_before : (nodes more : List Node) (at : ℕ) → at < length nodes → slice_get (nodes ++ more) at ≡ slice_get nodes at
get_before [] more at le = absurd (omega arith)
get_before (n ∷ nodes) more zero le = refl
get_before (n ∷ nodes) more (suc at) le = get_before nodes more at (omega (arith, le))

get_last : (nodes : List Node) (node : Node) → slice_get (nodes ++ node ∷ []) (length nodes) ≡ Some node
get_last [] node = refl
get_last (n ∷ nodes) node = get_last nodes node

-- at nodes below which two functions find the same
same_below : (f g : ℕ → ℕ → Option ℕ) (q : ℕ) (node : Node)
    → ((even odd : ℕ) → node ≡ Branch even odd → f (cond (nat_eq (q % 2) 0) even odd) (q / 2) ≡ g (cond (nat_eq (q % 2) 0) even odd) (q / 2))
    → at_node f q node ≡ at_node g q node
same_below f g q Empty same = refl
same_below f g q (Leaf key value) same = refl
same_below f g q (Branch even odd) same = same even odd refl

same_at : (f g : ℕ → ℕ → Option ℕ) (q : ℕ) (x : Option Node)
    → ((even odd : ℕ) → x ≡ Some (Branch even odd) → f (cond (nat_eq (q % 2) 0) even odd) (q / 2) ≡ g (cond (nat_eq (q % 2) 0) even odd) (q / 2))
    → option_and_then (at_node f q) x ≡ option_and_then (at_node g q) x
same_at f g q None same = refl
same_at f g q (Some node) same = same_below f g q node (λ even odd e. same even odd (ap (λ (n : Node). Some n) e))

module _ (nodes : List Node) (kept : AreNodes nodes) where
  within : (at even odd q : ℕ) → slice_get nodes at ≡ Some (Branch even odd) → cond (nat_eq (q % 2) 0) even odd < at
  within at even odd q e = let parts = kept.earlier at even odd e in either (nat_eq (q % 2) 0) even odd at parts.0 parts.1

  -- more steps than a node's place are enough
  enough : (k m at q : ℕ) → at < k → at < m → found_within k nodes at q ≡ found_within m nodes at q
  enough zero m at q p r = absurd (omega arith)
  enough (suc k) zero at q p r = absurd (omega arith)
  enough (suc k) (suc m) at q p r =
      same_at (found_within k nodes) (found_within m nodes) q (slice_get nodes at)
      (λ even odd e. let below = within at even odd q e in enough k m (cond (nat_eq (q % 2) 0) even odd) (q / 2) (omega (arith, below, p)) (omega (arith, below, r)))

  -- what is found at a node
  pub finds_at : (at q : ℕ) (node : Node) → slice_get nodes at ≡ Some node → found_from nodes at q ≡ at_node (found_from nodes) q node
  finds_at at q node e =
      ap (λ (x : Option Node). option_and_then (at_node (found_within at nodes) q) x) e
      ∙ same_below (found_within at nodes) (found_from nodes) q node
      (λ even odd is. let below = within at even odd q (e ∙ ap (λ (n : Node). Some n) is) in enough at (suc (cond (nat_eq (q % 2) 0) even odd)) (cond (nat_eq (q % 2) 0) even odd) (q / 2) below (omega arith))

  module _ (more : List Node) where
    as_before : (k at q : ℕ) → at < length nodes → found_within k (nodes ++ more) at q ≡ found_within k nodes at q
    as_before zero at q le = refl
    as_before (suc k) at q le =
        ap (λ (x : Option Node). option_and_then (at_node (found_within k (nodes ++ more)) q) x) (get_before nodes more at le)
        ∙ same_at (found_within k (nodes ++ more)) (found_within k nodes) q (slice_get nodes at)
        (λ even odd e. let below = within at even odd q e in as_before k (cond (nat_eq (q % 2) 0) even odd) (q / 2) (omega (arith, below, le)))

    -- a node finds the same where nodes are added
    pub still_finds : (at q : ℕ) → at < length nodes → found_from (nodes ++ more) at q ≡ found_from nodes at q
    still_finds at q le = as_before (suc at) at q le

  -- what an added node finds
  pub added_finds : (node : Node) (q : ℕ) → StandsBelow (length nodes) (length nodes) node → found_from (nodes ++ node ∷ []) (length nodes) q ≡ at_node (found_from nodes) q node
  added_finds node q stands =
      ap (λ (x : Option Node). option_and_then (at_node (found_within (length nodes) (nodes ++ node ∷ [])) q) x) (get_last nodes node)
      ∙ same_below (found_within (length nodes) (nodes ++ node ∷ [])) (found_from nodes) q node
      (λ even odd is.
      let parts : StandsBelow (length nodes) (length nodes) (Branch even odd) = subst (λ (n : Node). StandsBelow (length nodes) (length nodes) n) is stands in
      let child = cond (nat_eq (q % 2) 0) even odd in
      let below = either (nat_eq (q % 2) 0) even odd (length nodes) parts.0 parts.1 in
      as_before (node ∷ []) (length nodes) child (q / 2) below ∙ enough (length nodes) (suc child) child (q / 2) below (omega arith))
