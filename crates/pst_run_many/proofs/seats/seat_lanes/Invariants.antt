use Rattle.std.specs.Prelude.{◌≡◌, ℕ, ◌+◌, ◌<◌, ◌≤◌, get_or, drop, vec_items, vec_len}
use Rattle.std.specs.Vec.{vec_capacity}
use Rattle.std.specs.Vec.Iter.{into_iter_items, into_iter_len}
use Rattle.pst_post.specs.Seats.{fresh_seat}
use Rattle.pst_run_many.proofs.Seating.{Fresh}
use Rattle.pst_run_many.proofs.seats.seat_lanes.Given as goal

abbrev pub invariant-loop-number : goal.invariant-loop-number
invariant-loop-number g l = record {
  made : vec_len l.crew ≡ l.number;
  room : l.post.words ≤ vec_capacity l.crew;
  table : l.seat.table ≡ l.post;
  fresh : Fresh l.seat l.post.words l.number;
  left : into_iter_len l.lanes + l.number ≡ into_iter_len l.fn.lanes;
  rest : into_iter_items l.lanes ≡ drop l.number (into_iter_items l.fn.lanes);
  seats : (k : ℕ) (d : _) → k < l.number → (get_or (vec_items l.crew) k d).seat ≡ fresh_seat l.post k;
  lanes : (k : ℕ) (d e : _) → k < l.number → (get_or (vec_items l.crew) k d).lane ≡ get_or (into_iter_items l.fn.lanes) k e;
}
