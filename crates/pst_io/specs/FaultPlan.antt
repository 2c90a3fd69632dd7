-- How the numbers of the calls that fail are kept.
use Rattle.pst_io.specs.Planned.{PlannedFaults}
use Rattle.pst_io.specs.declared.fault_plan.FaultPlan.TheInside.{Inside}

-- the numbers as a list
abbrev pub planned_faults : Inside → PlannedFaults
planned_faults plan = record { failing = plan.failing.items; next = plan.next; faults = plan.faults }
