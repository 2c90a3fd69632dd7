-- What join forms release, branches, and parallel blocks.
use Rattle.std.specs.Prelude.{◌≡◌, ℕ, List, [], ◌∷◌, Bool, true, false, Option, Some, None}
use Rattle.pst_scen.specs.declared.tree.Node.{Node}
use Rattle.pst_scen.specs.declared.tree.Fill.TheVariants as fill
use Rattle.pst_scen.specs.declared.act.Act.{Act}
use Rattle.pst_scen.specs.declared.act.Flow.TheVariants.{StreamIn, StreamOut, StateIn, StateOut}
use Rattle.pst_scen.specs.declared.act.Link.{Link}
use Rattle.pst_scen.specs.declared.act.Link.TheVariants as link
use Rattle.pst_scen.specs.declared.scenario.Scenario.{Scenario}
use Rattle.pst_scen.specs.Tree.{branch_of}
use Rattle.pst_scen.specs.Order.{Before, Must}
use Rattle.pst_scen.specs.Plans.{StandParallel, KeepsParallel, ClashesAlone}
use Rattle.pst_trials.specs.Parts.{act_of, act_claims, claimed, filled, root_node, node, scenario_of}

abbrev plain_act : ℕ → Act
plain_act n = act_of 0 (Some n) []

-- repeat (2) parallel join_none { do A; }
abbrev pub turns : Scenario
turns = scenario_of 0
    (root_node 1 [] ∷ node 0 fill.Repeat ∷ node 1 (fill.Turn 0) ∷ node 2 (fill.Joined true 0) ∷ node 3 (fill.Leaf 0)
    ∷ node 1 (fill.Turn 1) ∷ node 5 (fill.Joined true 0) ∷ node 6 (fill.Leaf 1) ∷ [])
    (plain_act 4 ∷ plain_act 7 ∷ []) []

-- repeat (2) { parallel join_none { do A; } do B; }
abbrev pub blocks : Scenario
blocks = scenario_of 0
    (root_node 1 [] ∷ node 0 fill.Repeat
    ∷ node 1 (fill.Turn 0) ∷ node 2 fill.Sequence ∷ node 3 (fill.Joined true 0) ∷ node 4 (fill.Leaf 0) ∷ node 3 (fill.Leaf 1)
    ∷ node 1 (fill.Turn 1) ∷ node 7 fill.Sequence ∷ node 8 (fill.Joined true 0) ∷ node 9 (fill.Leaf 2) ∷ node 8 (fill.Leaf 3) ∷ [])
    (plain_act 5 ∷ plain_act 6 ∷ plain_act 10 ∷ plain_act 11 ∷ []) []

-- action J { activity { parallel join_none { do A; } do B; } }   do J; do B;
abbrev pub inner : Scenario
inner = scenario_of 0
    (root_node 3 [] ∷ node 0 (fill.Compound 2 0 []) ∷ node 1 (fill.Joined true 0) ∷ node 2 (fill.Leaf 0) ∷ node 1 (fill.Leaf 1) ∷ node 0 (fill.Leaf 2) ∷ [])
    (plain_act 3 ∷ plain_act 4 ∷ plain_act 5 ∷ []) []

-- if (1) parallel join_none { do A; } do C;
abbrev pub through_if : Scenario
through_if = scenario_of 0
    (root_node 3 [] ∷ node 0 (fill.If true) ∷ node 1 (fill.Joined true 0) ∷ node 2 (fill.Leaf 0) ∷ node 0 (fill.Leaf 1) ∷ [])
    (plain_act 3 ∷ plain_act 4 ∷ []) []

-- parallel join_branch (y) { { do A; do B; } y: do C; } do D;
abbrev pub second : Scenario
second = scenario_of 0
    (root_node 3 [] ∷ node 0 (fill.Joined true 2) ∷ node 1 fill.Sequence ∷ node 2 (fill.Leaf 0) ∷ node 2 (fill.Leaf 1) ∷ node 1 (fill.Leaf 2) ∷ node 0 (fill.Leaf 3) ∷ [])
    (plain_act 3 ∷ plain_act 4 ∷ plain_act 5 ∷ plain_act 6 ∷ []) []

-- schedule join_none, or parallel join_none, with two locks of one instance
abbrev pub locks : Bool → Scenario
locks parallel = scenario_of 0
    (root_node 1 [] ∷ node 0 (fill.Joined parallel 0) ∷ node 1 (fill.Leaf 0) ∷ node 1 (fill.Leaf 1) ∷ [])
    (act_claims 0 (Some 2) (claimed true 0 ∷ []) ∷ act_claims 0 (Some 3) (claimed true 0 ∷ []) ∷ []) []

-- parallel { { do A; do P; } do C; }, with a stream from P to C
abbrev pub partners : Scenario
partners = scenario_of 0
    (root_node 3 [] ∷ node 0 fill.Parallel ∷ node 1 fill.Sequence ∷ node 2 (fill.Leaf 0) ∷ node 2 (fill.Leaf 1) ∷ node 1 (fill.Leaf 2) ∷ [])
    (plain_act 3 ∷ act_of 1 (Some 4) (filled StreamOut [] (link.Act 2 0) ∷ []) ∷ act_of 2 (Some 5) (filled StreamIn [] (link.Act 1 0) ∷ []) ∷ []) []

-- parallel { do W; do W; }
abbrev pub writers : Scenario
writers = scenario_of 0
    (root_node 1 [] ∷ node 0 fill.Parallel ∷ node 1 (fill.Leaf 0) ∷ node 1 (fill.Leaf 1) ∷ [])
    (act_of 0 (Some 2) (filled StateOut [] link.Initial ∷ []) ∷ act_of 0 (Some 3) (filled StateOut [] (link.Act 0 0) ∷ []) ∷ [])
    (record { pool = 0; values = [] } ∷ [])

-- parallel { do R; do R; }
abbrev pub readers : Scenario
readers = scenario_of 0
    (root_node 1 [] ∷ node 0 fill.Parallel ∷ node 1 (fill.Leaf 0) ∷ node 1 (fill.Leaf 1) ∷ [])
    (act_of 0 (Some 2) (filled StateIn [] link.Initial ∷ []) ∷ act_of 0 (Some 3) (filled StateIn [] link.Initial ∷ []) ∷ [])
    (record { pool = 0; values = [] } ∷ [])

-- lock r_t k; share r_t j; of one instance
abbrev pub lock_and_share : Scenario
lock_and_share = scenario_of 0 (root_node 1 [] ∷ node 0 (fill.Leaf 0) ∷ []) (act_claims 0 (Some 1) (claimed true 0 ∷ claimed false 0 ∷ []) ∷ []) []

pub record ReleasesAreTried : Type 0 where
  -- the turns are one sequence: what one releases, the next doesn't wait for
  pub turn_releases : Before turns 0 1 → ⊥
  -- but where a block stands round the block with the join form, it is released in that alone
  pub block_releases : Before blocks 0 1 → ⊥
  pub next_turn_waits : Before blocks 0 3
  -- what is released in an inner activity is awaited outside
  pub inner_releases : Before inner 0 1 → ⊥
  pub outer_waits : Before inner 0 2
  -- a conditional statement is no sequence
  pub if_releases : Before through_if 0 1 → ⊥
  -- branches are counted by children
  pub second_branch : branch_of second.nodes 1 5 ≡ 1
  pub second_waits : Before second 2 3
  pub first_is_released : Before second 0 3 → ⊥
  pub first_in_order : Before second 0 1
  -- a schedule with a join form is no parallel block, a parallel one is
  pub schedule_isn't_parallel : (a b : ℕ) → StandParallel (locks false) a b → ⊥
  pub schedule_keeps : KeepsParallel (locks false)
  pub parallel_is : StandParallel (locks true) 0 1
  pub parallel_locks : KeepsParallel (locks true) → ⊥
  -- stream partners in branches of which one has more
  pub partners_are_ordered : KeepsParallel partners → ⊥
  -- writers in parallel are ordered, readers aren't
  pub writers_are_ordered : KeepsParallel writers → ⊥
  pub readers_are_kept : KeepsParallel readers
  -- a lock and a share of one action
  pub lock_and_share_clash : ClashesAlone lock_and_share 0
