use Rattle.std.specs.Prelude.{◌≡◌, ◌+◌, ◌≤◌, ◌++◌, vec_items, vec_len}
use Rattle.std.specs.Vec.{vec_capacity}
use Rattle.std.specs.Vec.Iter.{into_iter_items, into_iter_len}
use Rattle.pst_run_many.proofs.seats.put_behind.Given as goal

abbrev pub invariant-loop-lane : goal.invariant-loop-lane
invariant-loop-lane g l = record {
  room : vec_len l.lanes + into_iter_len l.lane-iterator ≤ vec_capacity l.lanes;
  all : vec_items l.lanes ++ into_iter_items l.lane-iterator ≡ vec_items l.fn.lanes ++ into_iter_items l.fn.rest;
}
