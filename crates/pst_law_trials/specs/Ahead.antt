-- What is known ahead, what a plan looks at, and which values are read; and what fails where a premise is taken away.
use Rattle.std.specs.Prelude.{◌≡◌, ℕ, ℤ, pos, List, [], ◌∷◌, true, Some, None}
use Rattle.pst_model.specs.declared.object.ObjectKind.TheVariants.{State}
use Rattle.pst_model.specs.ActivityTree.{Schedule}
use Rattle.pst_model.specs.ModelTree.{ModelTree}
use Rattle.pst_model.specs.Sound.{IsSound}
use Rattle.pst_model.specs.Trials.{lone, action as plain, field as to_seven}
use Rattle.pst_scen.specs.declared.tree.Fill.TheVariants as fill
use Rattle.pst_scen.specs.declared.act.Flow.TheVariants.{StateIn, StateOut}
use Rattle.pst_scen.specs.declared.act.Link.TheVariants as link
use Rattle.pst_scen.specs.declared.scenario.Scenario.{Scenario}
use Rattle.pst_scen.specs.Scenarios.{AreLinked, IsWellFormed}
use Rattle.pst_scen.specs.Order.{Must}
use Rattle.pst_scen.specs.Conflicts.{Conflict}
use Rattle.pst_scen.specs.Plans.{Contend}
use Rattle.pst_legal.specs.ValueReading.{Options, Dead, Whole, read}
use Rattle.pst_built.specs.GoesOn.{GoesOn}
use Rattle.pst_built.specs.Known.{InDomains}
use Rattle.pst_built.specs.OrderStaysLaws.{IsBarren}
use Rattle.pst_order_ahead.specs.Ahead.{MustAhead}
use Rattle.pst_order_ahead.specs.LaidOut.{IsLaidOut, ReadsTree}
use Rattle.pst_trials.specs.Parts.{span, compound, traverse, act_of, act_with, filled, root_node, node, scenario_of}
use Rattle.pst_trials.specs.Inference.{flow_model}
use Rattle.pst_trials.specs.Locks.{model as locking, twice, scenario as locked, choices}
use Rattle.pst_law_trials.specs.Models.{claims, claiming}
use Rattle.pst_law_trials.specs.Premises.{both_open, second_open}

-- ---- what is known ahead

-- do W; do W; do R; each writer is the other's previous one, and the reader reads the first object
abbrev pub writing : ModelTree
writing = flow_model State (compound [] (traverse 0 ∷ traverse 0 ∷ traverse 1 ∷ []) [])

abbrev pub ring : Scenario
ring = scenario_of 0
    (root_node 2 [] ∷ node 0 (fill.Leaf 0) ∷ node 0 (fill.Leaf 1) ∷ node 0 (fill.Leaf 2) ∷ [])
    (act_of 0 (Some 1) (filled StateOut [] (link.Act 1 0) ∷ []) ∷ act_of 0 (Some 2) (filled StateOut [] (link.Act 0 0) ∷ [])
    ∷ act_of 1 (Some 3) (filled StateIn [] link.Initial ∷ []) ∷ [])
    (record { pool = 0; values = [] } ∷ [])

-- of the claims' model, with the leaves exchanged
abbrev pub crossed : Scenario
crossed = scenario_of 0 (root_node 2 [] ∷ node 0 fill.Parallel ∷ node 1 (fill.Leaf 1) ∷ node 1 (fill.Leaf 0) ∷ []) both_open.actions []

pub record OrdersAheadAreTried : Type 0 where
  -- What is known ahead holds of legal scenarios alone: the reader of the first object comes before each writer, but in a ring of
  -- writers, which is read whole and isn't legal, it doesn't.
  pub reads_ring : read writing 2 1 0 (0 ∷ 0 ∷ 0 ∷ 0 ∷ 1 ∷ 1 ∷ 2 ∷ []) ≡ Whole ring
  pub comes_ahead : MustAhead ring 2 0
  pub doesn't_come : Must ring 2 0 → ⊥
  -- two that conflict, but in no parallel block, refuse nothing
  pub in_conflict : Conflict (locked true fill.Schedule) 0 1
  pub isn't_barren : IsBarren (locking true (Schedule twice)) 1 1 0 choices → ⊥
  -- what contends is known of longer lists alone: other lists read other instances
  pub contend : Contend (claiming 1 1) 0 1
  pub agree : Contend (claiming 1 0) 0 1 → ⊥
  -- a scenario that a list hasn't read need not be laid out
  pub reads_tree : ReadsTree claims 2 1 0 (0 ∷ 0 ∷ 0 ∷ [])
  pub isn't_laid_out : IsLaidOut crossed → ⊥

-- ---- what a plan looks at

pub record PlansAreTried : Type 0 where
  -- Of two linked scenarios the second goes on from the first, but not the first from the second: one instance isn't read in it.
  -- So one has a conflict, and the other has none.
  pub linked : AreLinked second_open.actions × AreLinked (claiming 1 1).actions
  pub formed : IsWellFormed second_open × IsWellFormed (claiming 1 1)
  pub goes_on : GoesOn second_open (claiming 1 1)
  pub conflict : Conflict (claiming 1 1) 0 1
  pub no_conflict_yet : Conflict second_open 0 1 → ⊥

-- ---- which values are read

-- an action as the root, with these values of its field
abbrev pub valued : List ℤ → Scenario
valued values = scenario_of 0 (record { parent = None; fill = fill.Leaf 0 } ∷ []) (act_with 0 (Some 0) values ∷ []) []

-- a field whose spans don't ascend, so that the model isn't sound
abbrev pub descending : ModelTree
descending = record lone { actions = record plain { fields = record to_seven { domain = span 5 5 ∷ span 0 0 ∷ [] } ∷ [] } ∷ [] }

pub record DomainsAreTried : Type 0 where
  -- from 0 to 7 there are eight options; the seed begins with the last one
  pub eight : read lone 0 1 0 (0 ∷ []) ≡ Options (valued []) 8
  pub last_first : read lone 0 1 0 (0 ∷ 0 ∷ []) ≡ Whole (valued (pos 7 ∷ []))
  pub first_second : read lone 0 1 0 (0 ∷ 1 ∷ []) ≡ Whole (valued (pos 0 ∷ []))
  pub no_ninth : read lone 0 1 0 (0 ∷ 8 ∷ []) ≡ Dead
  -- 8 is beyond the domain, so no list reads it of this sound model
  pub sound : IsSound lone
  pub beyond : InDomains lone (valued (pos 8 ∷ [])) → ⊥
  pub isn't_read : (choices : List ℕ) → read lone 0 1 0 choices ≡ Whole (valued (pos 8 ∷ [])) → ⊥
  -- of a model that isn't sound, what is read lies in no domain
  pub reads_zero : read descending 0 1 0 (0 ∷ 0 ∷ []) ≡ Whole (valued (pos 0 ∷ []))
  pub zero_is_beyond : InDomains descending (valued (pos 0 ∷ [])) → ⊥
