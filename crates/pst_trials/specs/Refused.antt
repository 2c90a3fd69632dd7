-- Why scenarios of the other trials have no plan, and the plan of one that has one.
use Rattle.std.specs.Prelude.{true, [], ◌∷◌}
use Rattle.pst_scen.specs.declared.tree.Fill.TheVariants as fill
use Rattle.pst_scen.specs.Plan.{Entries}
use Rattle.pst_scen.specs.Plans.{IsPlanOf}
use Rattle.pst_scen.specs.Refusals.{IsRefused, IsUnrefused, Cycle, GroupClash, ParallelOrder, ParallelClash}
use Rattle.pst_trials.specs.Locks.{scenario as claiming}
use Rattle.pst_trials.specs.Binds.{scenario as bound}
use Rattle.pst_trials.specs.OwnClaims.{scenario as twice_claiming}
use Rattle.pst_trials.specs.States.{replaced}

-- each action is its own group, nothing is ordered, and the two conflict
abbrev pub plan : Entries
plan = record { groups = 0 ∷ 1 ∷ []; must = record { size = 2; words = 0 ∷ 0 ∷ [] }; conflict = record { size = 2; words = 2 ∷ 1 ∷ [] } }

pub record RefusalsAreTried : Type 0 where
  -- two locks of one instance in parallel
  pub locks_in_parallel : IsRefused (claiming true fill.Parallel) (ParallelClash 0 1)
  -- a producer and its consumer in parallel
  pub bound_in_parallel : IsRefused (bound fill.Parallel) (ParallelOrder 0 1)
  -- two locks of one instance by one action
  pub twice_locked : IsRefused (twice_claiming true) (GroupClash 0 0)
  -- a reader of what was replaced before it; the first action comes before the others, but isn't on the cycle
  pub reader_of_replaced : IsRefused replaced (Cycle 1)
  -- and none where the locks come in any order
  pub locks_in_any_order : IsUnrefused (claiming true fill.Schedule)
  pub plan_of_locks : IsPlanOf (claiming true fill.Schedule) plan
