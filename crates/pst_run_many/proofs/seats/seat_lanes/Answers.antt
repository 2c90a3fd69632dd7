use Rattle.std.specs.Prelude.{◌≡◌, ℕ, ◌+◌, ◌<◌, ◌≤◌, [], ◌∷◌, ◌++◌, get_or, length, vec_len}
use Rattle.std.proofs.Common.{arith, sym, ap, ◌∙◌, subst, refl}
use Rattle.std.specs.Vec.Iter.{into_iter_items, into_iter_len}
use Rattle.pst_post.specs.Seats.{BookState, fresh_seat}
use Rattle.pst_workers.specs.declared.crew.SeatedLane.{SeatedLane}
use Rattle.pst_workers.proofs.Rows.{at_or}
use Rattle.pst_run_many.proofs.Seating.{fresh_start, fresh_more, next_of, drop_next, rows_more}
use Rattle.pst_run_many.proofs.seats.seat_lanes.Goals as goal

pub loop-number-init : goal.loop-number-init
loop-number-init g c = record {
  made = c.requires.room.0;
  room = c.requires.room.1;
  table = ap (λ (b : BookState). b.table) c.requires.seat;
  fresh = fresh_start c.args.seat.now c.args.post.now c.args.post.now.words c.requires.seat;
  left = omega arith;
  rest = refl;
  seats = λ k d h. absurd (omega (arith, h));
  lanes = λ k d e h. absurd (omega (arith, h));
}

pub loop-number-preserved : goal.loop-number-preserved
loop-number-preserved g c =
    let i = c.loop-number.invariant in
    let made = i.made in
    let room = i.room in
    let left = i.left in
    let post = c.args.post.now in
    let n = c.loop-number.number in
    let all = into_iter_items c.args.lanes.now in
    let crew = c.loop-number.crew in
    let pushed = c.push_reserved.ensures in
    let next = c.in-Some.ensures in
    let inside : n < post.words = omega (arith, c.loop-number-test.true, c.lanes-number-end.ensures.lanes) in
    let many : length crew.items ≡ n = omega (arith, made, crew.ok.0) in
    let new : SeatedLane g.row.T.Denot = record { lane = c.in-Some.lane; seat = c.deal.result } in
    let taken = sym i.rest ∙ next.items in
    record {
      made = omega (arith, made, pushed.len);
      room = omega (arith, room, pushed.capacity);
      table = ap (λ (b : BookState). b.table) c.deal.ensures.book ∙ i.table;
      fresh = fresh_more c.loop-number.seat c.deal.new.seat post.words n i.fresh inside c.deal.ensures.book;
      left = omega (arith, left, next.len);
      rest = drop_next all n c.in-Some.lane (into_iter_items c.next.new.self) taken;
      seats = λ k d h. subst (λ xs. (get_or xs k d).seat ≡ fresh_seat post k) (sym pushed.items)
          (rows_more (λ (j : ℕ) (x : SeatedLane g.row.T.Denot). x.seat ≡ fresh_seat post j) crew.items new n many i.seats c.deal.ensures.dealt k d h);
      lanes = λ k d e h. subst (λ xs. (get_or xs k d).lane ≡ get_or all k e) (sym pushed.items)
          (rows_more (λ (j : ℕ) (x : SeatedLane g.row.T.Denot). (y : g.row.T.Denot) → x.lane ≡ get_or all j y) crew.items new n many (λ j x low y. i.lanes j x y low) (λ y. next_of all n c.in-Some.lane (into_iter_items c.next.new.self) y taken) k d h e);
    }
