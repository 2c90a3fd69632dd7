use Rattle.std.proofs.Common.{◌<◌, ℕ}
use Rattle.pst_scen.specs.Refusals.{IsParallelOrdered}
use Rattle.pst_graph.proofs.refusals.find_parallel_order.Given as goal

abbrev pub invariant-loop-a : goal.invariant-loop-a
invariant-loop-a l = (c d : ℕ) → c < l.a → IsParallelOrdered l.scenario c d → ⊥
