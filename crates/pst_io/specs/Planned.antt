-- Calls that fail by their numbers.
use Rattle.std.specs.Prelude.{ℕ, ◌+◌, ◌==◌, List, Option, None, Some, Contains, min, if◌then◌else◌}
use Rattle.std.specs.Option.{IsSomeAnd}
use Rattle.pst_base.specs.Fault.{last_count}

-- the numbers of the calls that fail, the number of the next call, and the count of the calls that failed;
-- past the last number of 64 bits a call has none
pub record PlannedFaults : Type 0 where
  pub failing : List ℕ
  pub next : Option ℕ
  pub faults : ℕ

-- the next call is one of those that fail
abbrev pub FailsNext : PlannedFaults → Type 0
FailsNext plan = IsSomeAnd plan.next (Contains plan.failing)

-- the number of the call behind it
abbrev pub number_after : Option ℕ → Option ℕ
number_after None = None
number_after (Some number) = if number == last_count then None else Some (number + 1)

-- once the next call is answered
abbrev pub after_answer : PlannedFaults → PlannedFaults
after_answer plan = record plan { next = number_after plan.next }

-- once the next call has failed
abbrev pub after_fault : PlannedFaults → PlannedFaults
after_fault plan = record plan { next = number_after plan.next; faults = min (plan.faults + 1) last_count }
