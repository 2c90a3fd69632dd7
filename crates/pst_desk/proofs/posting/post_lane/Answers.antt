use Rattle.std.proofs.Common.{◌∷◌, [], ℕ, List, Bool, length, subst, ap, arith, length-append}
use Rattle.std.specs.Prelude.{None, Some}
use Rattle.pst_post.specs.Seats.{lane_entry}
use Rattle.pst_lanes.specs.Lanes.{starts_on}
use Rattle.pst_desk.specs.Turning.{IsDue}
use Rattle.pst_desk.proofs.Posts.{nothing_due, one_due, idle_due, none_due}
use Rattle.pst_desk.proofs.posting.post_lane.Goals as goal

pub returns-then-post-clause-seat : goal.returns-then-post-clause-seat
returns-then-post-clause-seat c =
    let b = c.args.book.now in
    let e = lane_entry c.args.seat.now c.args.lane in
    let due = subst (λ (v : Bool). IsDue b.trace c.args.lane e v) c.if-held.false c.requires.due in
    let starts = c.lanes_run_one.ensures.starts b.scenario b.lanes b.trace (c.prefixes_are_legal.ensures b.scenario b.lanes b.trace c.requires.prefix) c.args.lane (Some c.in-Some.act) c.in-Some.ensures in
    one_due c.args.seat.now c.post.new.seat c.args.lane c.in-Some.act (starts_on c.args.lane b.trace) (idle_due b.trace c.args.lane e (Some c.in-Some.act) due starts) c.if-post.ensures.book

pub returns-then-post-clause-count : goal.returns-then-post-clause-count
returns-then-post-clause-count c =
    let b = c.args.book.now in
    let e = lane_entry c.args.seat.now c.args.lane in
    let due = subst (λ (v : Bool). IsDue b.trace c.args.lane e v) c.if-held.false c.requires.due in
    let starts = c.lanes_run_one.ensures.starts b.scenario b.lanes b.trace (c.prefixes_are_legal.ensures b.scenario b.lanes b.trace c.requires.prefix) c.args.lane (Some c.in-Some.act) c.in-Some.ensures in
    let many = ap (λ (xs : List ℕ). length xs) (idle_due b.trace c.args.lane e (Some c.in-Some.act) due starts) in
    omega (arith, many, length-append e.posted (c.in-Some.act ∷ []))

pub returns-in-None-clause-seat : goal.returns-in-None-clause-seat
returns-in-None-clause-seat c =
    let b = c.args.book.now in
    let e = lane_entry c.args.seat.now c.args.lane in
    let due = subst (λ (v : Bool). IsDue b.trace c.args.lane e v) c.if-held.false c.requires.due in
    let starts = c.lanes_run_one.ensures.starts b.scenario b.lanes b.trace (c.prefixes_are_legal.ensures b.scenario b.lanes b.trace c.requires.prefix) c.args.lane None c.in-None.ensures in
    nothing_due c.args.seat.now c.args.lane (starts_on c.args.lane b.trace) (none_due b.trace c.args.lane e due starts)

pub returns-in-None-clause-count : goal.returns-in-None-clause-count
returns-in-None-clause-count c =
    let b = c.args.book.now in
    let e = lane_entry c.args.seat.now c.args.lane in
    let due = subst (λ (v : Bool). IsDue b.trace c.args.lane e v) c.if-held.false c.requires.due in
    let starts = c.lanes_run_one.ensures.starts b.scenario b.lanes b.trace (c.prefixes_are_legal.ensures b.scenario b.lanes b.trace c.requires.prefix) c.args.lane None c.in-None.ensures in
    let many = ap (λ (xs : List ℕ). length xs) (none_due b.trace c.args.lane e due starts) in
    omega (arith, many)
