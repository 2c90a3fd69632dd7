-- How what changes while a body runs is kept.
use Rattle.std.specs.Prelude.{◌≤◌, ◌^◌, length, vec_capacity}
use Rattle.pst_model.specs.Limits.{most_parameters}
use Rattle.pst_legal.specs.Body.{most_counts}
use Rattle.pst_body.specs.declared.memory.Memory.TheInside.{Inside}
use Rattle.pst_body.specs.Stores.{Store}

abbrev pub store_of : Inside → Store
store_of m = record { locals = m.locals.items; room = length m.values; arguments = m.arguments.items; count = m.count; calls = m.calls }

-- Each call is one of a statement, the limit on statements and turns is kept, there is room for each argument, and a variable
-- can name each slot.
pub record IsKept (m : Inside) : Type 0 where
  pub calls : m.calls ≤ m.count
  pub count : m.count ≤ most_counts
  pub slots : length m.values ≤ 2 ^ 32
  pub arguments : most_parameters ≤ vec_capacity m.arguments
