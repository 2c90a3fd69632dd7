-- Two actions that lock, or share, one resource instance, in parallel and in any order.
use Rattle.std.specs.Prelude.{◌≡◌, ℕ, List, [], ◌∷◌, Bool, true, false, Some}
use Rattle.pst_model.specs.declared.object.ObjectKind.TheVariants.{Resource}
use Rattle.pst_model.specs.ActivityTree.{StepTree, StepRow, Parallel, Schedule}
use Rattle.pst_model.specs.ModelTree.{ModelTree}
use Rattle.pst_scen.specs.declared.tree.Fill.{Fill}
use Rattle.pst_scen.specs.declared.tree.Fill.TheVariants as fill
use Rattle.pst_scen.specs.declared.act.Act.{Act}
use Rattle.pst_scen.specs.declared.scenario.Scenario.{Scenario}
use Rattle.pst_scen.specs.declared.event.Event.{Event}
use Rattle.pst_scen.specs.declared.event.Event.TheVariants.{End}
use Rattle.pst_scen.specs.Conflicts.{Conflict}
use Rattle.pst_scen.specs.Trace.{MayCome, Starts, IsLegalTrace, IsWhole}
use Rattle.pst_scen.specs.Plans.{KeepsParallel}
use Rattle.pst_legal.specs.Legal.{Legal}
use Rattle.pst_legal.specs.First.{IsFirst}
use Rattle.pst_legal.specs.ValueReading.{Whole, read}
use Rattle.pst_trials.specs.Parts.{bare, atomic, compound, top, pool_of, serve, traverse, filling, claim, act_claims, claimed, root_node, node, scenario_of, start, places}

-- resource r_t { }
-- component pss_top { pool r_t r; bind r *; action A { lock r_t k; } action entry { activity { .. } } }, or share for lock
abbrev pub model : Bool → StepTree → ModelTree
model locks step = record {
  actions = atomic [] (claim locks 0 ∷ []) ∷ compound [] (step ∷ []) [] ∷ [];
  objects = bare Resource ∷ [];
  instances = top;
  pools = pool_of 1 ∷ [];
  functions = [];
  served = serve 0 0 ∷ [];
}

-- do A; do A;
abbrev pub twice : StepRow
twice = filling (traverse 0 ∷ traverse 0 ∷ [])

abbrev pub act : Bool → ℕ → Act
act locks n = act_claims 0 (Some n) (claimed locks 0 ∷ [])

abbrev pub scenario : Bool → Fill → Scenario
scenario locks block = scenario_of 0 (root_node 1 [] ∷ node 0 block ∷ node 1 (fill.Leaf 0) ∷ node 1 (fill.Leaf 1) ∷ []) (act locks 2 ∷ act locks 3 ∷ []) []

-- a choice at each of the five places: three instances of components and two instances of resources
abbrev pub choices : List ℕ
choices = 0 ∷ 0 ∷ 0 ∷ 0 ∷ 0 ∷ []

abbrev pub one_after_another : List Event
one_after_another = start 0 0 ∷ End 0 ∷ start 1 0 ∷ End 1 ∷ []

pub record LocksAreTried : Type 0 where
  -- the list of choices reads exactly that
  pub reads_parallel_locks : read (model true (Parallel twice)) 1 1 0 choices ≡ Whole (scenario true fill.Parallel)
  pub reads_any_order : read (model true (Schedule twice)) 1 1 0 choices ≡ Whole (scenario true fill.Schedule)
  pub reads_parallel_shares : read (model false (Parallel twice)) 1 1 0 choices ≡ Whole (scenario false fill.Parallel)
  pub one_option_each : places (model true (Schedule twice)) 1 1 0 choices ≡ Some 1 ∷ Some 1 ∷ Some 1 ∷ Some 1 ∷ Some 1 ∷ []
  -- locks exclude each other, shares don't
  pub locks_conflict : Conflict (scenario true fill.Schedule) 0 1
  pub shares_agree : Conflict (scenario false fill.Parallel) 0 1 → ⊥
  -- in parallel the locks are refused
  pub locks_dispute : KeepsParallel (scenario true fill.Parallel) → ⊥
  pub parallel_locks_are_illegal : Legal (model true (Parallel twice)) 1 (scenario true fill.Parallel) → ⊥
  -- in any order they run one after another
  pub whole_trace : IsLegalTrace (scenario true fill.Schedule) 2 one_after_another
  pub whole : IsWhole (scenario true fill.Schedule) one_after_another
  pub not_together : MayCome (scenario true fill.Schedule) 2 (start 0 0 ∷ []) (Starts (1 ∷ []) (1 ∷ [])) → ⊥
  pub shares_together : MayCome (scenario false fill.Parallel) 2 (start 0 0 ∷ []) (Starts (1 ∷ []) (1 ∷ []))
  pub locks_are_legal : Legal (model true (Schedule twice)) 1 (scenario true fill.Schedule)
  -- every list before this one is cut off, so the scenario is the first
  pub locks_are_first : IsFirst (model true (Schedule twice)) 1 1 0 (scenario true fill.Schedule)
  pub shares_are_legal : Legal (model false (Parallel twice)) 1 (scenario false fill.Parallel)
