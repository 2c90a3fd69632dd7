-- Refusals rule out that there is no reason.
use Rattle.pst_scen.specs.declared.scenario.Scenario.{Scenario}
use Rattle.pst_scen.specs.Refusals.{IsUnrefused}
use Rattle.pst_graph.specs.declared.planning.PlanEnd.{PlanEnd}
use Rattle.pst_graph.specs.declared.planning.PlanEnd.TheVariants.{Cycle, GroupClash, ParallelOrder, ParallelClash, NoMemory}
use Rattle.pst_graph.specs.Ends.{IsRefusal}

pub refused : (s : Scenario) (end : PlanEnd) → IsRefusal s end → IsUnrefused s → ⊥
refused s (Cycle a) h free = free.no_cycle a h.is
refused s (GroupClash a b) h free = free.no_group_clash a b h.1.is
refused s (ParallelOrder a b) h free = free.no_parallel_order a b h.2.is
refused s (ParallelClash a b) h free = free.no_parallel_clash a b h.3.is
refused s NoMemory h free = h
