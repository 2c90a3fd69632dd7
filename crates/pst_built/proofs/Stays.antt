-- What of the order stays where a scenario goes on.
use Rattle.std.proofs.Common.{◌≡◌, ◌≢◌, ℕ, zero, suc, ◌+◌, ◌<◌, ◌≤◌, List, [], ◌∷◌, length, take, Bool, true, false, cond, Some, refl, sym, ap, ap₂, ◌∙◌, subst, arith, inl, inr, ⊎_elim}
use Rattle.std.specs.Prelude.{slice_get, count_by, IsBitSet}
use Rattle.std.proofs.lemmas.Bool.{false≢true}
use Rattle.std.proofs.lemmas.List.Sums.{sum_by-cons}
use Rattle.std.proofs.lemmas.Option.{none-some, same_Some, slice_get_within}
use Rattle.pst_scen.specs.declared.tree.Node.{Node}
use Rattle.pst_scen.specs.declared.tree.Fill.{Fill}
use Rattle.pst_scen.specs.declared.tree.Fill.TheVariants as fill
use Rattle.pst_scen.specs.declared.act.Act.{Act}
use Rattle.pst_scen.specs.declared.act.Claimed.{Claimed}
use Rattle.pst_scen.specs.declared.act.Flow.{Flow}
use Rattle.pst_scen.specs.declared.act.Link.{Link}
use Rattle.pst_scen.specs.declared.act.Link.TheVariants as link
use Rattle.pst_scen.specs.declared.scenario.Scenario.{Scenario}
use Rattle.pst_scen.specs.Scenarios.{IsWellFormed}
use Rattle.pst_scen.specs.Tree.{IsChild, StandsUnder, AtTop, Below, Contains-act, RunsInOrder, IsSequence, IsNearestSequence, Directly, Further, is_parent, IsReleased, StandsEarlier}
use Rattle.pst_scen.specs.Flows.{Refers, Streams, FromFirst, FromSecond, LeadsTo, IsClaim, Claims}
use Rattle.pst_scen.specs.Order.{Before, Together, Itself, Linked, Cause, Sequence, Buffer, Source, Previous, Replaced, Must, Directly as Must-directly, Through as Must-through}
use Rattle.pst_scen.specs.Conflicts.{Uses, Clash, Resource, FirstWrites, SecondWrites, Conflict}
use Rattle.pst_scen.specs.Plans.{ClashesAlone, Contend, IsParallel, StandParallel}
use Rattle.pst_built.proofs.Lists.{get_below}
use Rattle.pst_built.specs.GoesOn.{bare_fill, SameNode, Each, GoesOn}
use Rattle.pst_built.specs.SoFar as so-far
use Rattle.pst_built.specs.SoFar.{CauseSoFar, DirectSoFar, MustSoFar}
use Rattle.pst_built.specs.OrderStaysLaws.{OrderStays}

-- ---- nodes without values

is_compound : Fill → Bool
is_compound (fill.Compound action instance fields) = true
is_compound (fill.Leaf act) = false
is_compound fill.Sequence = false
is_compound fill.Parallel = false
is_compound fill.Schedule = false
is_compound (fill.Joined parallel joined) = false
is_compound (fill.Select branch) = false
is_compound fill.Repeat = false
is_compound (fill.Turn index) = false
is_compound (fill.If taken) = false
is_compound (fill.Match arm) = false

bare_kind : (f : Fill) → is_compound (bare_fill f) ≡ is_compound f
unfolding is_compound
bare_kind (fill.Compound action instance fields) = refl
bare_kind (fill.Leaf act) = refl
bare_kind fill.Sequence = refl
bare_kind fill.Parallel = refl
bare_kind fill.Schedule = refl
bare_kind (fill.Joined parallel joined) = refl
bare_kind (fill.Select branch) = refl
bare_kind fill.Repeat = refl
bare_kind (fill.Turn index) = refl
bare_kind (fill.If taken) = refl
bare_kind (fill.Match arm) = refl

bare_is : (f : Fill) → is_compound f ≡ false → bare_fill f ≡ f
unfolding is_compound
bare_is (fill.Compound action instance fields) e = absurd (false≢true (sym e))
bare_is (fill.Leaf act) e = refl
bare_is fill.Sequence e = refl
bare_is fill.Parallel e = refl
bare_is fill.Schedule e = refl
bare_is (fill.Joined parallel joined) e = refl
bare_is (fill.Select branch) e = refl
bare_is fill.Repeat e = refl
bare_is (fill.Turn index) e = refl
bare_is (fill.If taken) e = refl
bare_is (fill.Match arm) e = refl

leaf_plain : (act : ℕ) → is_compound (fill.Leaf act) ≡ false
unfolding is_compound
leaf_plain act = refl

joined_plain : (parallel : Bool) (joined : ℕ) → is_compound (fill.Joined parallel joined) ≡ false
unfolding is_compound
joined_plain parallel joined = refl

-- a node that isn't compound is the same
same_fill : (f g h : Fill) → bare_fill g ≡ bare_fill f → f ≡ h → is_compound h ≡ false → g ≡ h
same_fill f g h e is plain =
    let bare : bare_fill g ≡ h = e ∙ ap bare_fill is ∙ bare_is h plain in
    let kind : is_compound g ≡ false = sym (bare_kind g) ∙ ap is_compound bare ∙ plain in
    sym (bare_is g kind) ∙ bare

to_bare : (f : Fill) → RunsInOrder f → RunsInOrder (bare_fill f)
to_bare (fill.Compound action instance fields) h = h
to_bare (fill.Leaf act) h = h
to_bare fill.Sequence h = h
to_bare fill.Parallel h = h
to_bare fill.Schedule h = h
to_bare (fill.Joined parallel joined) h = h
to_bare (fill.Select branch) h = h
to_bare fill.Repeat h = h
to_bare (fill.Turn index) h = h
to_bare (fill.If taken) h = h
to_bare (fill.Match arm) h = h

from_bare : (f : Fill) → RunsInOrder (bare_fill f) → RunsInOrder f
from_bare (fill.Compound action instance fields) h = h
from_bare (fill.Leaf act) h = h
from_bare fill.Sequence h = h
from_bare fill.Parallel h = h
from_bare fill.Schedule h = h
from_bare (fill.Joined parallel joined) h = h
from_bare (fill.Select branch) h = h
from_bare fill.Repeat h = h
from_bare (fill.Turn index) h = h
from_bare (fill.If taken) h = h
from_bare (fill.Match arm) h = h

parallel_to : (f : Fill) → IsParallel f → IsParallel (bare_fill f)
parallel_to (fill.Compound action instance fields) h = h
parallel_to (fill.Leaf act) h = h
parallel_to fill.Sequence h = h
parallel_to fill.Parallel h = h
parallel_to fill.Schedule h = h
parallel_to (fill.Joined parallel joined) h = h
parallel_to (fill.Select branch) h = h
parallel_to fill.Repeat h = h
parallel_to (fill.Turn index) h = h
parallel_to (fill.If taken) h = h
parallel_to (fill.Match arm) h = h

parallel_from : (f : Fill) → IsParallel (bare_fill f) → IsParallel f
parallel_from (fill.Compound action instance fields) h = h
parallel_from (fill.Leaf act) h = h
parallel_from fill.Sequence h = h
parallel_from fill.Parallel h = h
parallel_from fill.Schedule h = h
parallel_from (fill.Joined parallel joined) h = h
parallel_from (fill.Select branch) h = h
parallel_from fill.Repeat h = h
parallel_from (fill.Turn index) h = h
parallel_from (fill.If taken) h = h
parallel_from (fill.Match arm) h = h

same_counts : (block n : ℕ) (xs ys : List Node) → n ≤ length xs → Each SameNode xs ys → count_by (λ node. is_parent block node.parent) (take n ys) ≡ count_by (λ node. is_parent block node.parent) (take n xs)
same_counts block zero xs ys most each = refl
same_counts block (suc n) [] ys most each = absurd (omega (arith, most))
same_counts block (suc n) (x ∷ xs) [] most each = let y = each zero x refl in absurd (none-some y.0 y.1)
same_counts block (suc n) (x ∷ xs) (y ∷ ys) most each =
    let test : Node → Bool = λ node. is_parent block node.parent in
    let first = each zero x refl in
    let same : y.parent ≡ x.parent = ap (λ (z : Node). z.parent) (same_Some y first.0 first.1) ∙ first.2.parent in
    sum_by-cons (λ z. cond (test z) 1 0) y (take n ys)
    ∙ ap₂ (λ a b. cond (is_parent block a) 1 0 + b) same (same_counts block n xs ys (omega (arith, most)) (λ k z is. each (suc k) z is))
    ∙ sym (sum_by-cons (λ z. cond (test z) 1 0) x (take n xs))

some_link : (a r : ℕ) → link.Act a r ≢ link.Nothing
some_link a r e = cc

module _ (s t : Scenario) (on : GoesOn s t) where
  -- ---- the tree, forwards

  child_on : (c p : ℕ) → IsChild s.nodes c p → IsChild t.nodes c p
  child_on c p child = let y = on.nodes c child.node child.is in record { node = y.0; is = y.1; in_parent = y.2.parent ∙ child.in_parent }

  under_on : (top n : ℕ) → StandsUnder s.nodes top n → StandsUnder t.nodes top n
  under_on top _ AtTop = AtTop
  under_on top _ (Below n parent under child) = Below n parent (under_on top parent under) (child_on n parent child)

  inside_on : (top a : ℕ) → Contains-act s.nodes top a → Contains-act t.nodes top a
  inside_on top a inside =
      let y = on.nodes inside.leaf inside.node inside.is in
      record { leaf = inside.leaf; node = y.0; is = y.1; of_act = same_fill inside.node.fill y.0.fill (fill.Leaf a) y.2.fill inside.of_act (leaf_plain a); under = under_on top inside.leaf inside.under }

  sequence_on : (n : ℕ) → IsSequence s.nodes n → IsSequence t.nodes n
  sequence_on n is =
      let y = on.nodes n is.node is.is in
      record { node = y.0; is = y.1; in_order = from_bare y.0.fill (subst RunsInOrder (sym y.2.fill) (to_bare is.node.fill is.in_order)) }

  earlier_on : (sequence a b : ℕ) → StandsEarlier s.nodes sequence a b → StandsEarlier t.nodes sequence a b
  earlier_on sequence a b e = record {
    is_sequence = sequence_on sequence e.is_sequence;
    earlier = e.earlier;
    later = e.later;
    earlier_child = child_on e.earlier sequence e.earlier_child;
    later_child = child_on e.later sequence e.later_child;
    order = e.order;
    a_inside = inside_on e.earlier a e.a_inside;
    b_inside = inside_on e.later b e.b_inside;
  }

  pub parallel_on : (a b : ℕ) → StandParallel s a b → StandParallel t a b
  parallel_on a b is =
      let y = on.nodes is.block is.node is.is in
      record {
        block = is.block;
        node = y.0;
        is = y.1;
        parallel = parallel_from y.0.fill (subst IsParallel (sym y.2.fill) (parallel_to is.node.fill is.parallel));
        a_branch = is.a_branch;
        b_branch = is.b_branch;
        different = is.different;
        a_child = child_on is.a_branch is.block is.a_child;
        b_child = child_on is.b_branch is.block is.b_child;
        a_inside = inside_on is.a_branch a is.a_inside;
        b_inside = inside_on is.b_branch b is.b_inside;
      }

  -- ---- references and claims

  pub refers_on : (a pool : ℕ) (flow : Flow) (to : Link) → to ≢ link.Nothing → Refers s a flow pool to → Refers t a flow pool to
  refers_on a pool flow to some r =
      let y = on.acts a r.act r.is_act in
      let g = y.2.references r.reference r.filled r.is in
      record {
        act = y.0;
        reference = r.reference;
        filled = g.0;
        is_act = y.1;
        is = g.1;
        of_flow = g.2.flow ∙ r.of_flow;
        of_pool = g.2.pool ∙ r.of_pool;
        linked = ⊎_elim (λ none. absurd (some (sym r.linked ∙ none))) (λ e. e ∙ r.linked) g.2.link;
      }

  refers_any : (a pool : ℕ) (flow : Flow) (to : Link) → Refers s a flow pool to → (other : Link) × Refers t a flow pool other
  refers_any a pool flow to r =
      let y = on.acts a r.act r.is_act in
      let g = y.2.references r.reference r.filled r.is in
      (g.0.link, record { act = y.0; reference = r.reference; filled = g.0; is_act = y.1; is = g.1; of_flow = g.2.flow ∙ r.of_flow; of_pool = g.2.pool ∙ r.of_pool; linked = refl })

  uses_on : (a pool : ℕ) → Uses s a pool → Uses t a pool
  uses_on a pool (to, inl reads) = let r = refers_any a pool _ to reads in (r.0, inl r.1)
  uses_on a pool (to, inr writes) = let r = refers_any a pool _ to writes in (r.0, inr r.1)

  claim_on : (a c : ℕ) (claimed : Claimed) → IsClaim s a c claimed → (other : Claimed) × IsClaim t a c other × (other.pool ≡ claimed.pool) × (other.lock ≡ claimed.lock) × (other.instance ≡ claimed.instance)
  claim_on a c claimed is =
      let y = on.acts a is.act is.is_act in
      let d = y.2.claims c claimed is.is in
      (d.0, record { act = y.0; is_act = y.1; is = d.1 }, d.2.pool, d.2.lock, d.2.instance)

  claims_on : (a pool instance : ℕ) (lock : Bool) → Claims s a pool instance lock → Claims t a pool instance lock
  claims_on a pool instance lock is =
      let d = claim_on a is.claim is.claimed is.is in
      record { claim = is.claim; claimed = d.0; is = d.1; of_pool = d.2 ∙ is.of_pool; of_instance = d.4 ∙ is.of_instance; by_lock = d.3 ∙ is.by_lock }

  clash_on : (a b : ℕ) → Clash s a b → Clash t a b
  clash_on a b (Resource pool instance own other one two lock) = Resource pool instance own other (claims_on a pool instance own one) (claims_on b pool instance other two) lock
  clash_on a b (FirstWrites pool to writes uses) = let r = refers_any a pool _ to writes in FirstWrites pool r.0 r.1 (uses_on b pool uses)
  clash_on a b (SecondWrites pool to uses writes) = let r = refers_any b pool _ to writes in SecondWrites pool r.0 (uses_on a pool uses) r.1

  pub conflict_on : (a b : ℕ) → Conflict s a b → Conflict t a b
  conflict_on a b (other, clash) = (other, clash_on a b clash)

  pub contend_on : (a b : ℕ) → Contend s a b → Contend t a b
  contend_on a b is = record {
    pool = is.pool;
    instance = is.instance;
    own = is.own;
    other = is.other;
    a_claims = claims_on a is.pool is.instance is.own is.a_claims;
    b_claims = claims_on b is.pool is.instance is.other is.b_claims;
    by_lock = is.by_lock;
  }

  pub alone_on : (a : ℕ) → ClashesAlone s a → ClashesAlone t a
  alone_on a is =
      let x = claim_on a is.first is.one is.is_first in
      let y = claim_on a is.second is.other is.is_second in
      record {
        first = is.first;
        second = is.second;
        one = x.0;
        other = y.0;
        different = is.different;
        is_first = x.1;
        is_second = y.1;
        same_pool = x.2 ∙ is.same_pool ∙ sym y.2;
        same_instance = x.4 ∙ is.same_instance ∙ sym y.4;
        by_lock = ⊎_elim (λ e. inl (x.3 ∙ e)) (λ e. inr (y.3 ∙ e)) is.by_lock;
      }

  -- ---- groups

  streams_on : (a b : ℕ) → Streams s a b → Streams t a b
  streams_on a b (FromFirst pool reference flow kind r) = FromFirst pool reference flow kind (refers_on a pool flow (link.Act b reference) (some_link b reference) r)
  streams_on a b (FromSecond pool reference flow kind r) = FromSecond pool reference flow kind (refers_on b pool flow (link.Act a reference) (some_link a reference) r)

  pub together_on : (a b : ℕ) → Together s a b → Together t a b
  together_on a _ Itself = Itself
  together_on a _ (Linked b c together streams) = Linked b c (together_on a b together) (streams_on b c streams)

  -- ---- the tree, backwards

  module _ (formed : IsWellFormed t) where
    back : (n : ℕ) (y : Node) → n < length s.nodes → slice_get t.nodes n ≡ Some y → (x : Node) × (slice_get s.nodes n ≡ Some x) × SameNode x y
    back n y l is =
        let x = get_below s.nodes n l in
        let z = on.nodes n x.0 x.1 in
        (x.0, x.1, subst (SameNode x.0) (same_Some z.0 y (sym z.1 ∙ is)) z.2)

    child_back : (c p : ℕ) → c < length s.nodes → IsChild t.nodes c p → IsChild s.nodes c p
    child_back c p l child = let x = back c child.node l child.is in record { node = x.0; is = x.1; in_parent = sym x.2.parent ∙ child.in_parent }

    parent_low : (c p : ℕ) → IsChild t.nodes c p → p < c
    parent_low c p child = formed.parents c p child.node child.is child.in_parent

    under_back : (top n : ℕ) → n < length s.nodes → StandsUnder t.nodes top n → StandsUnder s.nodes top n
    under_back top _ l AtTop = AtTop
    under_back top _ l (Below n parent under child) =
        let low = parent_low n parent child in
        Below n parent (under_back top parent (omega (arith, l, low)) under) (child_back n parent l child)

    under_low : (top n : ℕ) → StandsUnder t.nodes top n → top ≤ n
    under_low top _ AtTop = omega arith
    under_low top _ (Below n parent under child) = let low = parent_low n parent child in let rest = under_low top parent under in omega (arith, low, rest)

    sequence_back : (n : ℕ) → n < length s.nodes → IsSequence t.nodes n → IsSequence s.nodes n
    sequence_back n l is =
        let x = back n is.node l is.is in
        record { node = x.0; is = x.1; in_order = from_bare x.0.fill (subst RunsInOrder x.2.fill (to_bare is.node.fill is.in_order)) }

    nearest_back : (top n : ℕ) → n < length s.nodes → IsNearestSequence t.nodes top n → IsNearestSequence s.nodes top n
    nearest_back top _ l (Directly n child sequence) =
        let low = parent_low n top child in
        Directly n (child_back n top l child) (sequence_back top (omega (arith, l, low)) sequence)
    nearest_back top _ l (Further n parent child none rest) =
        let low = parent_low n parent child in
        Further n parent (child_back n parent l child) (λ sequence. none (sequence_on parent sequence)) (nearest_back top parent (omega (arith, l, low)) rest)

    -- an action has one leaf
    one_leaf : (top other a : ℕ) (x : Contains-act t.nodes top a) (y : Contains-act t.nodes other a) → x.leaf ≡ y.leaf
    one_leaf top other a x y =
        let p = formed.leaves x.leaf a x.node x.is x.of_act in
        let q = formed.leaves y.leaf a y.node y.is y.of_act in
        let same = same_Some p.0 q.0 (sym p.1 ∙ q.1) in
        same_Some x.leaf y.leaf (sym p.2 ∙ ap (λ (z : Act). z.node) same ∙ q.2)

    released_back : (sequence top a : ℕ) → Contains-act s.nodes top a → IsReleased t.nodes sequence a → IsReleased s.nodes sequence a
    unfolding inside_on
    released_back sequence top a inside r =
        let known = inside_on top a inside in
        let same = one_leaf top r.branch a known r.inside in
        let low : inside.leaf < length s.nodes = slice_get_within s.nodes inside.leaf inside.node inside.is in
        let leaf_low : r.inside.leaf < length s.nodes = subst (λ n. n < length s.nodes) same low in
        let branch_most = under_low r.branch r.inside.leaf r.inside.under in
        let branch_low : r.branch < length s.nodes = omega (arith, leaf_low, branch_most) in
        let block_first = parent_low r.branch r.block r.child in
        let block_low : r.block < length s.nodes = omega (arith, branch_low, block_first) in
        let x = back r.block r.node block_low r.is in
        let leaf = back r.inside.leaf r.inside.node leaf_low r.inside.is in
        let counts = same_counts r.block r.branch s.nodes t.nodes (omega (arith, branch_low)) on.nodes in
        record {
          block = r.block;
          branch = r.branch;
          node = x.0;
          parallel = r.parallel;
          joined = r.joined;
          is = x.1;
          join = same_fill r.node.fill x.0.fill (fill.Joined r.parallel r.joined) (sym x.2.fill) r.join (joined_plain r.parallel r.joined);
          child = child_back r.branch r.block branch_low r.child;
          free = λ bit. r.free (subst (λ n. IsBitSet r.joined n) (sym counts) bit);
          inside = record {
            leaf = r.inside.leaf;
            node = leaf.0;
            is = leaf.1;
            of_act = same_fill r.inside.node.fill leaf.0.fill (fill.Leaf a) (sym leaf.2.fill) r.inside.of_act (leaf_plain a);
            under = under_back r.branch r.inside.leaf leaf_low r.inside.under;
          };
          nearest = nearest_back sequence r.block block_low r.nearest;
        }

    -- ---- what comes before

    before_on : (a b : ℕ) → Before s a b → Before t a b
    before_on a b is = record {
      sequence = is.sequence;
      earlier = earlier_on is.sequence a b is.earlier;
      awaited = λ released. is.awaited (released_back is.sequence is.earlier.earlier a is.earlier.a_inside released);
    }

    leads_some : (to : Link) (a : ℕ) → LeadsTo to a → to ≢ link.Nothing
    leads_some to a leads none = some_link a leads.0 (sym leads.1 ∙ none)

    cause_on : (a b : ℕ) → CauseSoFar s a b → Cause t a b
    cause_on a b (so-far.Sequence before) = Sequence (before_on a b before)
    cause_on a b (so-far.Buffer feeds) = Buffer (record { pool = feeds.pool; output = feeds.output; input = refers_on b feeds.pool _ (link.Act a feeds.output) (some_link a feeds.output) feeds.input })
    cause_on a b (so-far.Source pool to reads leads) = Source pool to (refers_on b pool _ to (leads_some to a leads) reads) leads
    cause_on a b (so-far.Previous pool to writes leads) = Previous pool to (refers_on b pool _ to (leads_some to a leads) writes) leads
    cause_on a b (so-far.Replaced pool to some reads writes) = Replaced pool to (refers_on a pool _ to some reads) (refers_on b pool _ to some writes)

    must_on : (a b : ℕ) → MustSoFar s a b → Must t a b
    must_on a b (so-far.Directly _ x _ (other, cause) together) = Must-directly a x b (other, cause_on a x cause) (together_on b x together)
    must_on a b (so-far.Through _ c _ one two) = Must-through a c b (must_on a c one) (must_on c b two)

    pub stays : OrderStays s t
    stays = record {
      before = before_on;
      cause = cause_on;
      together = together_on;
      must = must_on;
      conflict = conflict_on;
      contend = contend_on;
      alone = alone_on;
      parallel = parallel_on;
    }
