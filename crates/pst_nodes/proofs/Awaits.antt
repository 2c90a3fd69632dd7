-- Which leaves a sequence awaits.
use Rattle.std.proofs.Common.{◌≡◌, ◌<◌, ◌↔◌, ℕ, List, length, subst, ◌∙◌}
use Rattle.std.proofs.lemmas.Option.{slice_get_within}
use Rattle.pst_scen.specs.declared.tree.Node.{Node}
use Rattle.pst_scen.specs.declared.scenario.Scenario.{Scenario}
use Rattle.pst_scen.specs.Tree.{IsChild, StandsUnder, IsReleased, Contains-act}
use Rattle.pst_scen.specs.Order.{Before}
use Rattle.pst_scen.specs.Plans.{StandParallel}
use Rattle.pst_scen.specs.Laws.{IsPreorder, HasOneLeafEach}
use Rattle.pst_nodes.specs.Over.{IsLeafOf, Over, IsFree, IsAwaited, IsBranchBeside}
use Rattle.pst_nodes.proofs.Climbs.{one_parent, one_child}

pub awaited_later : (nodes : List Node) (leaf other n sequence later : ℕ) → IsPreorder nodes → IsChild nodes n sequence → IsChild nodes later sequence → StandsUnder nodes later other → IsAwaited nodes leaf other n → n < later
awaited_later nodes leaf other n sequence later preorder child of_later under a =
    let parent_is : a.sequence ≡ sequence = one_parent nodes n a.sequence sequence a.is_child child in
    let moved : IsChild nodes a.later sequence = subst (λ (q : ℕ). IsChild nodes a.later q) parent_is a.later_child in
    subst (λ (k : ℕ). n < k) (one_child nodes sequence a.later later other preorder moved of_later a.under under) a.order

pub awaited_kept : (nodes : List Node) (leaf other n sequence : ℕ) → IsChild nodes n sequence → IsAwaited nodes leaf other n → Over nodes (IsFree nodes sequence) leaf → ⊥
awaited_kept nodes leaf other n sequence child a =
    subst (λ (q : ℕ). Over nodes (IsFree nodes q) leaf → ⊥) (one_parent nodes n a.sequence sequence a.is_child child) a.kept

pub leaf_within : (nodes : List Node) (act n : ℕ) → IsLeafOf nodes act n → n < length nodes
leaf_within nodes act n leaf = slice_get_within nodes n leaf.node leaf.is

pub leaf_inside : (nodes : List Node) (top act : ℕ) → (inside : Contains-act nodes top act) → IsLeafOf nodes act inside.leaf
leaf_inside nodes top act inside = record { node = inside.node; is = inside.is; of_act = inside.of_act }

module _ (nodes : List Node) (act leaf : ℕ) (is_leaf : IsLeafOf nodes act leaf) where
  pub inside_under : (top : ℕ) → StandsUnder nodes top leaf → Contains-act nodes top act
  inside_under top under = record { leaf = leaf; node = is_leaf.node; is = is_leaf.is; of_act = is_leaf.of_act; under = under }

  pub over_released : (sequence : ℕ) → Over nodes (IsFree nodes sequence) leaf → IsReleased nodes sequence act
  over_released sequence over =
      let free = over.has in
      let left = free.left in
      record {
        block = free.block;
        branch = over.top;
        node = left.node;
        parallel = left.parallel;
        joined = left.joined;
        is = left.is;
        join = left.join;
        child = free.child;
        free = left.free;
        inside = inside_under over.top over.under;
        nearest = free.nearest;
      }

  module _ (one : HasOneLeafEach nodes) where
    pub under_inside : (top : ℕ) → Contains-act nodes top act → StandsUnder nodes top leaf
    under_inside top inside =
        subst (λ (n : ℕ). StandsUnder nodes top n) (one.one inside.leaf leaf act inside.node is_leaf.node inside.is is_leaf.is inside.of_act is_leaf.of_act) inside.under

    pub released_over : (sequence : ℕ) → IsReleased nodes sequence act → Over nodes (IsFree nodes sequence) leaf
    released_over sequence r =
        record {
          top = r.branch;
          under = under_inside r.branch r.inside;
          has = record {
            block = r.block;
            child = r.child;
            left = record { node = r.node; parallel = r.parallel; joined = r.joined; is = r.is; join = r.join; free = r.free };
            nearest = r.nearest;
          };
        }

pub before_by_leaves : (s : Scenario) (a b leaf other : ℕ) → HasOneLeafEach s.nodes → IsLeafOf s.nodes a leaf → IsLeafOf s.nodes b other → Over s.nodes (IsAwaited s.nodes leaf other) leaf ↔ Before s a b
before_by_leaves s a b leaf other one a_leaf b_leaf = (there, back)
  where
    there : Over s.nodes (IsAwaited s.nodes leaf other) leaf → Before s a b
    there over =
        let h = over.has in
        record {
          sequence = h.sequence;
          earlier = record {
            is_sequence = h.is_sequence;
            earlier = over.top;
            later = h.later;
            earlier_child = h.is_child;
            later_child = h.later_child;
            order = h.order;
            a_inside = inside_under s.nodes a leaf a_leaf over.top over.under;
            b_inside = inside_under s.nodes b other b_leaf h.later h.under;
          };
          awaited = λ r. h.kept (released_over s.nodes a leaf a_leaf one h.sequence r);
        }

    back : Before s a b → Over s.nodes (IsAwaited s.nodes leaf other) leaf
    back h =
        let e = h.earlier in
        record {
          top = e.earlier;
          under = under_inside s.nodes a leaf a_leaf one e.earlier e.a_inside;
          has = record {
            sequence = h.sequence;
            is_sequence = e.is_sequence;
            is_child = e.earlier_child;
            later = e.later;
            later_child = e.later_child;
            order = e.order;
            under = under_inside s.nodes b other b_leaf one e.later e.b_inside;
            kept = λ over. h.awaited (over_released s.nodes a leaf a_leaf h.sequence over);
          };
        }

pub beside_is : (nodes : List Node) (other n block branch : ℕ) → IsPreorder nodes → IsChild nodes n block → IsChild nodes branch block → StandsUnder nodes branch other → IsBranchBeside nodes other n → n ≡ branch → ⊥
beside_is nodes other n block branch preorder child of_branch under a same =
    let block_is : a.block ≡ block = one_parent nodes n a.block block a.is_child child in
    let moved : IsChild nodes a.other block = subst (λ (q : ℕ). IsChild nodes a.other q) block_is a.other_child in
    a.different (same ∙ one_child nodes block branch a.other other preorder of_branch moved under a.under)

pub parallel_by_leaves : (s : Scenario) (a b leaf other : ℕ) → HasOneLeafEach s.nodes → IsLeafOf s.nodes a leaf → IsLeafOf s.nodes b other → Over s.nodes (IsBranchBeside s.nodes other) leaf ↔ StandParallel s a b
parallel_by_leaves s a b leaf other one a_leaf b_leaf = (there, back)
  where
    there : Over s.nodes (IsBranchBeside s.nodes other) leaf → StandParallel s a b
    there over =
        let h = over.has in
        let block = h.is_block in
        record {
          block = h.block;
          node = block.node;
          is = block.is;
          parallel = block.parallel;
          a_branch = over.top;
          b_branch = h.other;
          different = h.different;
          a_child = h.is_child;
          b_child = h.other_child;
          a_inside = inside_under s.nodes a leaf a_leaf over.top over.under;
          b_inside = inside_under s.nodes b other b_leaf h.other h.under;
        }

    back : StandParallel s a b → Over s.nodes (IsBranchBeside s.nodes other) leaf
    back h =
        record {
          top = h.a_branch;
          under = under_inside s.nodes a leaf a_leaf one h.a_branch h.a_inside;
          has = record {
            block = h.block;
            is_block = record { node = h.node; is = h.is; parallel = h.parallel };
            is_child = h.a_child;
            other = h.b_branch;
            other_child = h.b_child;
            different = h.different;
            under = under_inside s.nodes b other b_leaf one h.b_branch h.b_inside;
          };
        }
