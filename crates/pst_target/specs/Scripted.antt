-- Targets in memory that answer by a list.
use Rattle.std.specs.Prelude.{ℕ, ◌+◌, ◌==◌, ℤ, pos, List, Option, None, Some, if◌then◌else◌}
use Rattle.std.specs.List.{slice_index_or}
use Rattle.pst_base.specs.Fault.{last_count}
use Rattle.pst_target.specs.declared.call.Call.{Call}

-- the answers by function, and the answered calls
pub record Answering : Type 0 where
  pub answers : List ℤ
  pub calls : List Call

-- the same, with the number of the call that fails, that of the next call, and the count of the calls that failed;
-- past the last number of 64 bits a call has none
pub record AnsweringOrFailing : Type 0 where
  pub answers : List ℤ
  pub calls : List Call
  pub failing : ℕ
  pub next : Option ℕ
  pub faults : ℕ

-- the answer of a function, which is 0 beyond the list
abbrev pub answer_of : List ℤ → ℕ → ℤ
answer_of answers function = slice_index_or answers function (pos 0)

-- the number of the call behind this one
abbrev pub number_after : Option ℕ → Option ℕ
number_after None = None
number_after (Some number) = if number == last_count then None else Some (number + 1)
