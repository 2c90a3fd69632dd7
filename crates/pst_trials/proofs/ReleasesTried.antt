-- Facts: release, branches, and parallel blocks.
use Rattle.std.proofs.Common.{◌≡◌, ◌≢◌, ℕ, zero, suc, ◌<◌, List, [], ◌∷◌, ◌⊎◌, inl, inr, Option, Some, None, Bool, true, false, slice_get, refl, sym, subst, ◌∙◌, lit<, IsBitSet, nat_eq}
use Rattle.pst_scen.specs.declared.tree.Node.{Node}
use Rattle.pst_scen.specs.declared.tree.Fill.{Fill}
use Rattle.pst_scen.specs.declared.tree.Fill.TheVariants as fill
use Rattle.pst_scen.specs.declared.act.Flow.TheVariants.{StreamIn, StreamOut, StateIn, StateOut}
use Rattle.pst_scen.specs.declared.act.Link.TheVariants as link
use Rattle.pst_scen.specs.declared.scenario.Scenario.{Scenario}
use Rattle.pst_scen.specs.Tree.{IsNode, IsChild, IsSequence, RunsInOrder, IsNearestSequence, Directly as NearestDirectly, Further, AtTop, Below, IsReleased, StandsEarlier, branch_of}
use Rattle.pst_scen.specs.Flows.{Claims, Streams, FromFirst, Writes}
use Rattle.pst_scen.specs.Order.{Before, Must, Sequence, Previous, Directly, Through, Together, Itself, Linked}
use Rattle.pst_scen.specs.Plans.{StandParallel, KeepsParallel, ClashesAlone, Contend}
use Rattle.pst_scen.specs.Laws.{IsPreorder}
use Rattle.pst_trials.specs.Releases.{turns, blocks, inner, through_if, second, locks, partners, writers, readers, lock_and_share}
use Rattle.pst_trials.proofs.Cases.{Each, each, some_same, none_some, false_true}
use Rattle.pst_trials.proofs.Branches.{each_earlier, each_parallel}
use Rattle.pst_trials.proofs.Orders.{each_before, each_cause, each_must_alone, each_contend}
use Rattle.pst_trials.proofs.Traces.{preorder_by, no_joins}
use Rattle.pst_trials.proofs.Legality.{differ}
use Rattle.pst_trials.proofs.Released.{not_released}

-- ---- sequences

-- a node with such a fill is no sequence
not_sequence : (nodes : List Node) (n : ℕ) (node : Node) → slice_get nodes n ≡ Some node → (RunsInOrder node.fill → ⊥) → IsSequence nodes n → ⊥
not_sequence nodes n node is none q = none (subst (λ (x : Node). RunsInOrder x.fill) (some_same q.node node (sym q.is ∙ is)) q.in_order)

-- where a node's parent is a sequence, that is the nearest one
nearest_is_parent : (nodes : List Node) (top n parent : ℕ) → IsChild nodes n parent → IsSequence nodes parent → IsNearestSequence nodes top n → top ≡ parent
nearest_is_parent nodes top n parent child sequence (NearestDirectly _ other is) =
    let same : other.node ≡ child.node = some_same other.node child.node (sym other.is ∙ child.is) in
    some_same top parent (sym other.in_parent ∙ (subst (λ (x : Node). x.parent ≡ Some parent) (sym same) child.in_parent))
nearest_is_parent nodes top n parent child sequence (Further _ other is none above) =
    let same : is.node ≡ child.node = some_same is.node child.node (sym is.is ∙ child.is) in
    let one : other ≡ parent = some_same other parent (sym is.in_parent ∙ (subst (λ (x : Node). x.parent ≡ Some parent) (sym same) child.in_parent)) in
    absurd (none (subst (IsSequence nodes) (sym one) sequence))

-- ---- turns

turns_in_order : IsPreorder turns.nodes
turns_in_order = preorder_by turns.nodes (refl, (refl, (refl, (refl, (refl, (refl, (refl, (refl, tt))))))))

turn_is_released : IsReleased turns.nodes 1 0
turn_is_released = record {
  block = 3;
  branch = 4;
  node = _;
  parallel = true;
  joined = 0;
  is = refl;
  join = refl;
  child = record { node = _; is = refl; in_parent = refl };
  free = λ set. set refl;
  inside = record { leaf = 4; node = _; is = refl; of_act = refl; under = AtTop };
  nearest = Further 3 2 (record { node = _; is = refl; in_parent = refl }) (not_sequence turns.nodes 2 _ refl (λ none. none)) (NearestDirectly 2 (record { node = _; is = refl; in_parent = refl }) (record { node = _; is = refl; in_order = tt }));
}

pub turn_releases : Before turns 0 1 → ⊥
turn_releases before = before.awaited (subst (λ n. IsReleased turns.nodes n 0) (sym (each_earlier (λ n a b. n ≡ 1) turns.nodes turns_in_order (refl, tt) before.sequence 0 1 before.earlier)) turn_is_released)

-- ---- blocks in turns

blocks_in_order : IsPreorder blocks.nodes
blocks_in_order = preorder_by blocks.nodes (refl, (refl, (refl, (refl, (refl, (refl, (refl, (refl, (refl, (refl, (refl, (refl, tt))))))))))))

block_is_released : IsReleased blocks.nodes 3 0
block_is_released = record {
  block = 4;
  branch = 5;
  node = _;
  parallel = true;
  joined = 0;
  is = refl;
  join = refl;
  child = record { node = _; is = refl; in_parent = refl };
  free = λ set. set refl;
  inside = record { leaf = 5; node = _; is = refl; of_act = refl; under = AtTop };
  nearest = NearestDirectly 4 (record { node = _; is = refl; in_parent = refl }) (record { node = _; is = refl; in_order = tt });
}

-- of the actions 0 and 1 the sequence is that of the first turn
abbrev OnlyThird : ℕ → ℕ → ℕ → Type 0
OnlyThird n a b = a ≡ 0 → b ≡ 1 → n ≡ 3

no : (a b : ℕ) → nat_eq a b ≡ false → (n : ℕ) → a ≡ b → n ≡ 3
no a b differs n is = absurd (differ a b differs is)

pub block_releases : Before blocks 0 1 → ⊥
block_releases before =
    before.awaited (subst (λ n. IsReleased blocks.nodes n 0) (sym (each_earlier OnlyThird blocks.nodes blocks_in_order (
      ((λ a b. no 2 1 refl 1 b)),
      (
        ((λ a b. no 3 1 refl 1 b)),
        (
          ((λ a b. no 1 0 refl 1 a)),
          (
            ((λ a b. no 1 0 refl 1 a)),
            (
              ((λ a b. refl)),
              (
                ((λ a b. no 2 0 refl 8 a)),
                tt,
              ),
            ),
          ),
        ),
      ),
    ) before.sequence 0 1 before.earlier refl refl)) block_is_released)

-- the blocks with join forms have their sequences just round them
block_ways : Each (λ n node. (parallel : Bool) (joined : ℕ) → node.fill ≡ fill.Joined parallel joined → IsNearestSequence blocks.nodes 1 n → ⊥) blocks.nodes
block_ways = (
  (λ p j is near. cc is),
  (
    (λ p j is near. cc is),
    (
      (λ p j is near. cc is),
      (
        (λ p j is near. cc is),
        (
          (λ p j is near. differ 1 3 refl (nearest_is_parent blocks.nodes 1 4 3 (record { node = _; is = refl; in_parent = refl }) (record { node = _; is = refl; in_order = tt }) near)),
          (
            (λ p j is near. cc is),
            (
              (λ p j is near. cc is),
              (
                (λ p j is near. cc is),
                (
                  (λ p j is near. cc is),
                  (
                    (λ p j is near. differ 1 8 refl (nearest_is_parent blocks.nodes 1 9 8 (record { node = _; is = refl; in_parent = refl }) (record { node = _; is = refl; in_order = tt }) near)),
                    (
                      (λ p j is near. cc is),
                      (
                        (λ p j is near. cc is),
                        tt,
                      ),
                    ),
                  ),
                ),
              ),
            ),
          ),
        ),
      ),
    ),
  ),
)

not_released_in_turns : (act : ℕ) → IsReleased blocks.nodes 1 act → ⊥
not_released_in_turns act r =
    each (λ n node. (parallel : Bool) (joined : ℕ) → node.fill ≡ fill.Joined parallel joined → IsNearestSequence blocks.nodes 1 n → ⊥) blocks.nodes block_ways r.block r.node r.is r.parallel r.joined r.join r.nearest

pub next_turn_waits : Before blocks 0 3
next_turn_waits = record {
  sequence = 1;
  earlier = record {
    is_sequence = record { node = _; is = refl; in_order = tt };
    earlier = 2;
    later = 7;
    earlier_child = record { node = _; is = refl; in_parent = refl };
    later_child = record { node = _; is = refl; in_parent = refl };
    order = lit< tt;
    a_inside = record { leaf = 5; node = _; is = refl; of_act = refl; under = Below 5 4 (Below 4 3 (Below 3 2 AtTop (record { node = _; is = refl; in_parent = refl })) (record { node = _; is = refl; in_parent = refl })) (record { node = _; is = refl; in_parent = refl }) };
    b_inside = record { leaf = 11; node = _; is = refl; of_act = refl; under = Below 11 8 (Below 8 7 AtTop (record { node = _; is = refl; in_parent = refl })) (record { node = _; is = refl; in_parent = refl }) };
  };
  awaited = not_released_in_turns 0;
}

-- ---- an inner activity

inner_in_order : IsPreorder inner.nodes
inner_in_order = preorder_by inner.nodes (refl, (refl, (refl, (refl, (refl, (refl, tt))))))

inner_is_released : IsReleased inner.nodes 1 0
inner_is_released = record {
  block = 2;
  branch = 3;
  node = _;
  parallel = true;
  joined = 0;
  is = refl;
  join = refl;
  child = record { node = _; is = refl; in_parent = refl };
  free = λ set. set refl;
  inside = record { leaf = 3; node = _; is = refl; of_act = refl; under = AtTop };
  nearest = NearestDirectly 2 (record { node = _; is = refl; in_parent = refl }) (record { node = _; is = refl; in_order = tt });
}

abbrev OnlyFirst : ℕ → ℕ → ℕ → Type 0
OnlyFirst n a b = a ≡ 0 → b ≡ 1 → n ≡ 1

never : (a b : ℕ) → nat_eq a b ≡ false → (n : ℕ) → a ≡ b → n ≡ 1
never a b differs n is = absurd (differ a b differs is)

pub inner_releases : Before inner 0 1 → ⊥
inner_releases before =
    before.awaited (subst (λ n. IsReleased inner.nodes n 0) (sym (each_earlier OnlyFirst inner.nodes inner_in_order (
      (λ a b. never 2 1 refl 0 b),
      (
        (λ a b. never 2 1 refl 0 b),
        (
          (λ a b. refl),
          tt,
        ),
      ),
    ) before.sequence 0 1 before.earlier refl refl)) inner_is_released)

inner_ways : Each (λ n node. (parallel : Bool) (joined : ℕ) → node.fill ≡ fill.Joined parallel joined → IsNearestSequence inner.nodes 0 n → ⊥) inner.nodes
inner_ways = (
  (λ p j is near. cc is),
  (
    (λ p j is near. cc is),
    (
      (λ p j is near. differ 0 1 refl (nearest_is_parent inner.nodes 0 2 1 (record { node = _; is = refl; in_parent = refl }) (record { node = _; is = refl; in_order = tt }) near)),
      (
        (λ p j is near. cc is),
        (
          (λ p j is near. cc is),
          (
            (λ p j is near. cc is),
            tt,
          ),
        ),
      ),
    ),
  ),
)

not_released_outside : (act : ℕ) → IsReleased inner.nodes 0 act → ⊥
not_released_outside act r =
    each (λ n node. (parallel : Bool) (joined : ℕ) → node.fill ≡ fill.Joined parallel joined → IsNearestSequence inner.nodes 0 n → ⊥) inner.nodes inner_ways r.block r.node r.is r.parallel r.joined r.join r.nearest

pub outer_waits : Before inner 0 2
outer_waits = record {
  sequence = 0;
  earlier = record {
    is_sequence = record { node = _; is = refl; in_order = tt };
    earlier = 1;
    later = 5;
    earlier_child = record { node = _; is = refl; in_parent = refl };
    later_child = record { node = _; is = refl; in_parent = refl };
    order = lit< tt;
    a_inside = record { leaf = 3; node = _; is = refl; of_act = refl; under = Below 3 2 (Below 2 1 AtTop (record { node = _; is = refl; in_parent = refl })) (record { node = _; is = refl; in_parent = refl }) };
    b_inside = record { leaf = 5; node = _; is = refl; of_act = refl; under = AtTop };
  };
  awaited = not_released_outside 0;
}

-- ---- through a conditional statement

if_in_order : IsPreorder through_if.nodes
if_in_order = preorder_by through_if.nodes (refl, (refl, (refl, (refl, (refl, tt)))))

if_is_released : IsReleased through_if.nodes 0 0
if_is_released = record {
  block = 2;
  branch = 3;
  node = _;
  parallel = true;
  joined = 0;
  is = refl;
  join = refl;
  child = record { node = _; is = refl; in_parent = refl };
  free = λ set. set refl;
  inside = record { leaf = 3; node = _; is = refl; of_act = refl; under = AtTop };
  nearest = Further 2 1 (record { node = _; is = refl; in_parent = refl }) (not_sequence through_if.nodes 1 _ refl (λ none. none)) (NearestDirectly 1 (record { node = _; is = refl; in_parent = refl }) (record { node = _; is = refl; in_order = tt }));
}

pub if_releases : Before through_if 0 1 → ⊥
if_releases before = before.awaited (subst (λ n. IsReleased through_if.nodes n 0) (sym (each_earlier (λ n a b. n ≡ 0) through_if.nodes if_in_order (refl, tt) before.sequence 0 1 before.earlier)) if_is_released)

-- ---- the second branch

second_in_order : IsPreorder second.nodes
second_in_order = preorder_by second.nodes (refl, (refl, (refl, (refl, (refl, (refl, (refl, tt)))))))

pub second_branch : branch_of second.nodes 1 5 ≡ 1
second_branch = refl

pub second_waits : Before second 2 3
second_waits = record {
  sequence = 0;
  earlier = record {
    is_sequence = record { node = _; is = refl; in_order = tt };
    earlier = 1;
    later = 6;
    earlier_child = record { node = _; is = refl; in_parent = refl };
    later_child = record { node = _; is = refl; in_parent = refl };
    order = lit< tt;
    a_inside = record { leaf = 5; node = _; is = refl; of_act = refl; under = Below 5 1 AtTop (record { node = _; is = refl; in_parent = refl }) };
    b_inside = record { leaf = 6; node = _; is = refl; of_act = refl; under = AtTop };
  };
  awaited = not_released second.nodes second_in_order 2 (refl, (refl, tt)) 0;
}

first_released : IsReleased second.nodes 0 0
first_released = record {
  block = 1;
  branch = 2;
  node = _;
  parallel = true;
  joined = 2;
  is = refl;
  join = refl;
  child = record { node = _; is = refl; in_parent = refl };
  free = λ set. set refl;
  inside = record { leaf = 3; node = _; is = refl; of_act = refl; under = Below 3 2 AtTop (record { node = _; is = refl; in_parent = refl }) };
  nearest = NearestDirectly 1 (record { node = _; is = refl; in_parent = refl }) (record { node = _; is = refl; in_order = tt });
}

abbrev OnlyRoot : ℕ → ℕ → ℕ → Type 0
OnlyRoot n a b = b ≡ 3 → n ≡ 0

pub first_is_released : Before second 0 3 → ⊥
first_is_released before =
    before.awaited (subst (λ n. IsReleased second.nodes n 0) (sym (each_earlier OnlyRoot second.nodes second_in_order (
      (λ b. refl),
      (
        (λ b. refl),
        (
          (λ b. refl),
          (
            (λ b. absurd (differ 1 3 refl b)),
            tt,
          ),
        ),
      ),
    ) before.sequence 0 3 before.earlier refl)) first_released)

second_ways : Each (λ n node. (parallel : Bool) (joined : ℕ) → node.fill ≡ fill.Joined parallel joined → IsNearestSequence second.nodes 2 n → ⊥) second.nodes
second_ways = (
  (λ p j is near. cc is),
  (
    (λ p j is near. differ 2 0 refl (nearest_is_parent second.nodes 2 1 0 (record { node = _; is = refl; in_parent = refl }) (record { node = _; is = refl; in_order = tt }) near)),
    (
      (λ p j is near. cc is),
      (
        (λ p j is near. cc is),
        (
          (λ p j is near. cc is),
          (
            (λ p j is near. cc is),
            (
              (λ p j is near. cc is),
              tt,
            ),
          ),
        ),
      ),
    ),
  ),
)

pub first_in_order : Before second 0 1
first_in_order = record {
  sequence = 2;
  earlier = record {
    is_sequence = record { node = _; is = refl; in_order = tt };
    earlier = 3;
    later = 4;
    earlier_child = record { node = _; is = refl; in_parent = refl };
    later_child = record { node = _; is = refl; in_parent = refl };
    order = lit< tt;
    a_inside = record { leaf = 3; node = _; is = refl; of_act = refl; under = AtTop };
    b_inside = record { leaf = 4; node = _; is = refl; of_act = refl; under = AtTop };
  };
  awaited = λ r. each (λ n node. (parallel : Bool) (joined : ℕ) → node.fill ≡ fill.Joined parallel joined → IsNearestSequence second.nodes 2 n → ⊥) second.nodes second_ways r.block r.node r.is r.parallel r.joined r.join r.nearest;
}

-- ---- schedules and parallel blocks

locks_in_order : (parallel : Bool) → IsPreorder (locks parallel).nodes
locks_in_order parallel = preorder_by (locks parallel).nodes (refl, (refl, (refl, (refl, tt))))

pub schedule_isn't_parallel : (a b : ℕ) → StandParallel (locks false) a b → ⊥
schedule_isn't_parallel = each_parallel (λ a b. ⊥) (locks false) (locks_in_order false) tt

pub schedule_keeps : KeepsParallel (locks false)
schedule_keeps = record { unordered = λ a b stand. absurd (schedule_isn't_parallel a b stand); undisputed = λ a b stand. absurd (schedule_isn't_parallel a b stand) }

pub parallel_is : StandParallel (locks true) 0 1
parallel_is = record {
  block = 1;
  node = _;
  is = refl;
  parallel = refl;
  a_branch = 2;
  b_branch = 3;
  different = differ 2 3 refl;
  a_child = record { node = _; is = refl; in_parent = refl };
  b_child = record { node = _; is = refl; in_parent = refl };
  a_inside = record { leaf = 2; node = _; is = refl; of_act = refl; under = AtTop };
  b_inside = record { leaf = 3; node = _; is = refl; of_act = refl; under = AtTop };
}

first_claims : Claims (locks true) 0 0 0 true
first_claims = record { claim = 0; claimed = _; is = record { act = _; is_act = refl; is = refl }; of_pool = refl; of_instance = refl; by_lock = refl }

second_claims : Claims (locks true) 1 0 0 true
second_claims = record { claim = 0; claimed = _; is = record { act = _; is_act = refl; is = refl }; of_pool = refl; of_instance = refl; by_lock = refl }

pub parallel_locks : KeepsParallel (locks true) → ⊥
parallel_locks keeps =
    keeps.undisputed 0 1 parallel_is (differ 0 1 refl)
    (record { pool = 0; instance = 0; own = true; other = true; a_claims = first_claims; b_claims = second_claims; by_lock = inl refl })

-- ---- stream partners

partners_before : Before partners 0 1
partners_before = record {
  sequence = 2;
  earlier = record {
    is_sequence = record { node = _; is = refl; in_order = tt };
    earlier = 3;
    later = 4;
    earlier_child = record { node = _; is = refl; in_parent = refl };
    later_child = record { node = _; is = refl; in_parent = refl };
    order = lit< tt;
    a_inside = record { leaf = 3; node = _; is = refl; of_act = refl; under = AtTop };
    b_inside = record { leaf = 4; node = _; is = refl; of_act = refl; under = AtTop };
  };
  awaited = no_joins partners.nodes (refl, (refl, (refl, (refl, (refl, (refl, tt)))))) 2 0;
}

partner_stream : Streams partners 2 1
partner_stream = FromFirst 0 0 StreamIn (inl refl) (record { act = _; reference = 0; filled = _; is_act = refl; is = refl; of_flow = refl; of_pool = refl; linked = refl })

partners_stand : StandParallel partners 0 2
partners_stand = record {
  block = 1;
  node = _;
  is = refl;
  parallel = tt;
  a_branch = 2;
  b_branch = 5;
  different = differ 2 5 refl;
  a_child = record { node = _; is = refl; in_parent = refl };
  b_child = record { node = _; is = refl; in_parent = refl };
  a_inside = record { leaf = 3; node = _; is = refl; of_act = refl; under = Below 3 2 AtTop (record { node = _; is = refl; in_parent = refl }) };
  b_inside = record { leaf = 5; node = _; is = refl; of_act = refl; under = AtTop };
}

pub partners_are_ordered : KeepsParallel partners → ⊥
partners_are_ordered keeps = keeps.unordered 0 2 partners_stand (Directly 0 1 2 (differ 0 1 refl, Sequence partners_before) (Linked 2 1 Itself partner_stream))

-- ---- writers and readers

writers_stand : StandParallel writers 0 1
writers_stand = record {
  block = 1;
  node = _;
  is = refl;
  parallel = tt;
  a_branch = 2;
  b_branch = 3;
  different = differ 2 3 refl;
  a_child = record { node = _; is = refl; in_parent = refl };
  b_child = record { node = _; is = refl; in_parent = refl };
  a_inside = record { leaf = 2; node = _; is = refl; of_act = refl; under = AtTop };
  b_inside = record { leaf = 3; node = _; is = refl; of_act = refl; under = AtTop };
}

second_writes : Writes writers 1 0 (link.Act 0 0)
second_writes = record { act = _; reference = 0; filled = _; is_act = refl; is = refl; of_flow = refl; of_pool = refl; linked = refl }

pub writers_are_ordered : KeepsParallel writers → ⊥
writers_are_ordered keeps = keeps.unordered 0 1 writers_stand (Directly 0 1 1 (differ 0 1 refl, Previous 0 (link.Act 0 0) second_writes (0, refl)) Itself)

readers_in_order : IsPreorder readers.nodes
readers_in_order = preorder_by readers.nodes (refl, (refl, (refl, (refl, tt))))

no_order : (a b : ℕ) → Must readers a b → ⊥
no_order = each_must_alone (λ a b. ⊥) readers tt (λ a c b first second. first) (each_cause (λ a b. ⊥) readers (each_before (λ a b. ⊥) readers readers_in_order tt) tt)

no_contention : (a b : ℕ) → Contend readers a b → ⊥
no_contention = each_contend (λ a b. ⊥) readers tt

pub readers_are_kept : KeepsParallel readers
readers_are_kept = record { unordered = λ a b stand. no_order a b; undisputed = λ a b stand different contend. no_contention a b contend }

-- ---- one action

pub lock_and_share_clash : ClashesAlone lock_and_share 0
lock_and_share_clash = record {
  first = 0;
  second = 1;
  one = _;
  other = _;
  different = differ 0 1 refl;
  is_first = record { act = _; is_act = refl; is = refl };
  is_second = record { act = _; is_act = refl; is = refl };
  same_pool = refl;
  same_instance = refl;
  by_lock = inl refl;
}
