-- Claims of the actions below nodes.
use Rattle.std.proofs.Common.{◌≡◌, ◌≢◌, ◌⊎◌, ℕ, ◌+◌, ◌<◌, ◌≤◌, List, length, get_or, Bool, true, false, Option, Some, refl, sym, ap, ◌∙◌, subst, arith}
use Rattle.std.specs.Prelude.{slice_get}
use Rattle.std.proofs.lemmas.Option.{same_Some, slice_get_within}
use Rattle.pst_scen.specs.declared.tree.Node.{Node}
use Rattle.pst_scen.specs.declared.tree.Fill.TheVariants.{Leaf}
use Rattle.pst_scen.specs.declared.scenario.Scenario.{Scenario}
use Rattle.pst_scen.specs.Laws.{IsPreorder, HasOneLeafEach}
use Rattle.pst_scen.specs.Tree.{IsNode, IsChild, AtTop, Contains-act}
use Rattle.pst_scen.specs.Plans.{IsParallel, StandParallel}
use Rattle.pst_nodes.specs.Over.{IsLeafOf, IsParallelBlock}
use Rattle.pst_claim_rivals.specs.declared.claims.OpenClaim.{OpenClaim}
use Rattle.pst_claim_rivals.specs.Rivals.{Beside, AreRivals}
use Rattle.pst_claim_counts.specs.declared.needs.Need.{Need}
use Rattle.pst_claim_counts.specs.Needs.{AreNeeded, IsNeed, no_need, AreNeeds, IsListed, IsOwn, AreLeafSlots, IsInBranch, IsBelow}
use Rattle.pst_claim_counts.proofs.Children.{one_leaf, inside_up}
use Rattle.pst_claim_counts.proofs.Sets.{weaker_need, joined_need, greater_need, updated}

module _ (nodes : List Node) (claims : List OpenClaim) (pool : ℕ) where
  -- ---- at first

  leaf_below : (slots : List (Option ℕ)) → AreLeafSlots nodes slots → (n : ℕ) (x : OpenClaim) → IsOwn slots claims pool (length claims) n x → IsBelow nodes claims pool (length nodes) n x
  leaf_below slots leaves n x own =
      let leaf = leaves x.act n own.slot in
      record {
        listed = own.listed;
        inside = record { leaf = n; node = leaf.node; is = leaf.is; of_act = leaf.of_act; under = AtTop };
        branch = λ block.
            let same : block.node ≡ leaf.node = same_Some block.node leaf.node (sym block.is ∙ leaf.is) in
            absurd (subst IsParallel (ap (λ (z : Node). z.fill) same ∙ leaf.of_act) block.parallel);
      }

  pub leaves_below : (s : Scenario) (slots : List (Option ℕ)) (needs : List Need) → AreLeafSlots nodes slots → AreNeeds s (IsOwn slots claims pool (length claims)) needs → AreNeeds s (IsBelow nodes claims pool (length nodes)) needs
  leaves_below s slots needs leaves all = λ n l. weaker_need s (IsOwn slots claims pool (length claims) n) (IsBelow nodes claims pool (length nodes) n) (get_or needs n no_need) (leaf_below slots leaves n) (all n l)

  -- ---- from a node to its parent

  earlier : (n k : ℕ) (x : OpenClaim) → IsBelow nodes claims pool (n + 1) k x → IsBelow nodes claims pool n k x
  earlier n k x below = record {
    listed = below.listed;
    inside = below.inside;
    branch = λ block. let b = below.branch block in record { branch = b.branch; child = b.child; late = (let l = b.late in omega (arith, l)); inside = b.inside };
  }

  pub all_earlier : (s : Scenario) (n : ℕ) (needs : List Need) → AreNeeds s (IsBelow nodes claims pool (n + 1)) needs → AreNeeds s (IsBelow nodes claims pool n) needs
  all_earlier s n needs all = λ k l. weaker_need s (IsBelow nodes claims pool (n + 1) k) (IsBelow nodes claims pool n k) (get_or needs k no_need) (earlier n k) (all k l)

  module _ (s : Scenario) (same : s.nodes ≡ nodes) (n parent : ℕ) (child : IsChild nodes n parent) where
    from_child : (x : OpenClaim) → IsBelow nodes claims pool (n + 1) n x → IsBelow nodes claims pool n parent x
    from_child x below = record {
      listed = below.listed;
      inside = inside_up nodes parent n x.act child below.inside;
      branch = λ block. record { branch = n; child = child; late = omega arith; inside = below.inside };
    }

    beside : IsPreorder nodes → HasOneLeafEach nodes → IsParallelBlock nodes parent → (x y : OpenClaim) → IsBelow nodes claims pool (n + 1) parent x → IsBelow nodes claims pool (n + 1) n y → (x.lock ≡ true) ⊎ (y.lock ≡ true) → AreRivals s x y
    beside preorder leaves block x y one other lock =
        let b = one.branch block in
        let order : n < b.branch = let l = b.late in omega (arith, l) in
        let back = sym same in
        let apart : x.act ≢ y.act = λ e. one_leaf nodes parent n b.branch y.act preorder leaves child b.child order other.inside (subst (Contains-act nodes b.branch) e b.inside) in
        let stand : StandParallel s x.act y.act = record {
          block = parent;
          node = block.node;
          is = subst (λ ns. IsNode ns parent block.node) back block.is;
          parallel = block.parallel;
          a_branch = b.branch;
          b_branch = n;
          different = λ e. let l = order in omega (arith, l, e);
          a_child = subst (λ ns. IsChild ns b.branch parent) back b.child;
          b_child = subst (λ ns. IsChild ns n parent) back child;
          a_inside = subst (λ ns. Contains-act ns b.branch x.act) back b.inside;
          b_inside = subst (λ ns. Contains-act ns n y.act) back other.inside;
        } in
        record { on_pool = record { pool = pool; first = one.listed.on; second = other.listed.on }; by_lock = lock; meet = Beside apart stand }

    pub raised_parallel : IsPreorder nodes → HasOneLeafEach nodes → IsParallelBlock nodes parent → (one other need : Need) → IsNeed s (IsBelow nodes claims pool (n + 1) parent) one → IsNeed s (IsBelow nodes claims pool (n + 1) n) other
        → need.locks ≤ one.locks + other.locks → (need.all ≤ one.locks + other.all) ⊎ (need.all ≤ one.all + other.locks) → IsNeed s (IsBelow nodes claims pool n parent) need
    raised_parallel preorder leaves block one other need a b few all =
        joined_need s (IsBelow nodes claims pool (n + 1) parent) (IsBelow nodes claims pool (n + 1) n) (IsBelow nodes claims pool n parent) (earlier n parent) from_child (beside preorder leaves block) one other need a b few all

    pub raised_other : (one other need : Need) → IsNeed s (IsBelow nodes claims pool (n + 1) parent) one → IsNeed s (IsBelow nodes claims pool (n + 1) n) other
        → (need.locks ≡ one.locks) ⊎ (need.locks ≡ other.locks) → (need.all ≡ one.all) ⊎ (need.all ≡ other.all) → IsNeed s (IsBelow nodes claims pool n parent) need
    raised_other one other need a b locks all =
        greater_need s (IsBelow nodes claims pool (n + 1) parent) (IsBelow nodes claims pool (n + 1) n) (IsBelow nodes claims pool n parent) (earlier n parent) from_child one other need a b locks all

    pub all_raised : (old new : List Need) (need : Need) → length new ≡ length old → get_or new parent no_need ≡ need → ((k : ℕ) → k ≢ parent → get_or new k no_need ≡ get_or old k no_need)
        → IsNeed s (IsBelow nodes claims pool n parent) need → AreNeeds s (IsBelow nodes claims pool (n + 1)) old → AreNeeds s (IsBelow nodes claims pool n) new
    all_raised old new need many at others is all =
        updated s (IsBelow nodes claims pool (n + 1)) (IsBelow nodes claims pool n) old new parent need many at others (earlier n) is all
