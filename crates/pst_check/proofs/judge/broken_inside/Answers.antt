use Rattle.std.proofs.Common.{refl}
use Rattle.pst_by_rule.specs.Blocks.{starts_in}
use Rattle.pst_check.proofs.Places.{no_true}
use Rattle.pst_check.proofs.Meanings.{free_more, free_all, least, starts_not_nine, starts_not_ten}
use Rattle.pst_check.proofs.judge.broken_inside.Goals as goal

pub returns-then-breaks_once : goal.returns-then-breaks_once
returns-then-breaks_once c =
    let s = c.args.scenario.now in
    let t = c.args.past.now in
    let part = c.args.part.now in
    let b = starts_in part in
    let f3 = c.requires.free in
    least s t b 3 f3 (c.if-breaks_once.ensures.0 refl)

pub returns-then-breaks_lanes : goal.returns-then-breaks_lanes
returns-then-breaks_lanes c =
    let s = c.args.scenario.now in
    let t = c.args.past.now in
    let part = c.args.part.now in
    let b = starts_in part in
    let f3 = c.requires.free in
    let f4 = free_more s t b 3 4 refl f3 (λ k. no_true (c.if-breaks_once.ensures.1 k)) in
    least s t b 4 f4 (c.if-breaks_lanes.ensures.0 refl)

pub returns-then-breaks_statements : goal.returns-then-breaks_statements
returns-then-breaks_statements c =
    let s = c.args.scenario.now in
    let t = c.args.past.now in
    let part = c.args.part.now in
    let b = starts_in part in
    let f3 = c.requires.free in
    let f4 = free_more s t b 3 4 refl f3 (λ k. no_true (c.if-breaks_once.ensures.1 k)) in
    let f5 = free_more s t b 4 5 refl f4 (λ k. no_true (c.if-breaks_lanes.ensures.1 k)) in
    least s t b 5 f5 (c.if-breaks_statements.ensures.0 refl)

pub returns-then-breaks_buffers : goal.returns-then-breaks_buffers
returns-then-breaks_buffers c =
    let s = c.args.scenario.now in
    let t = c.args.past.now in
    let part = c.args.part.now in
    let b = starts_in part in
    let f3 = c.requires.free in
    let f4 = free_more s t b 3 4 refl f3 (λ k. no_true (c.if-breaks_once.ensures.1 k)) in
    let f5 = free_more s t b 4 5 refl f4 (λ k. no_true (c.if-breaks_lanes.ensures.1 k)) in
    let f6 = free_more s t b 5 6 refl f5 (λ k. no_true (c.if-breaks_statements.ensures.1 k)) in
    least s t b 6 f6 (c.if-breaks_buffers.ensures.0 refl)

pub returns-then-breaks_states : goal.returns-then-breaks_states
returns-then-breaks_states c =
    let s = c.args.scenario.now in
    let t = c.args.past.now in
    let part = c.args.part.now in
    let b = starts_in part in
    let f3 = c.requires.free in
    let f4 = free_more s t b 3 4 refl f3 (λ k. no_true (c.if-breaks_once.ensures.1 k)) in
    let f5 = free_more s t b 4 5 refl f4 (λ k. no_true (c.if-breaks_lanes.ensures.1 k)) in
    let f6 = free_more s t b 5 6 refl f5 (λ k. no_true (c.if-breaks_statements.ensures.1 k)) in
    let f7 = free_more s t b 6 7 refl f6 (λ k. no_true (c.if-breaks_buffers.ensures.1 k)) in
    least s t b 7 f7 (c.if-breaks_states.ensures.0 refl)

pub returns-then-breaks_conflicts : goal.returns-then-breaks_conflicts
returns-then-breaks_conflicts c =
    let s = c.args.scenario.now in
    let t = c.args.past.now in
    let part = c.args.part.now in
    let b = starts_in part in
    let f3 = c.requires.free in
    let f4 = free_more s t b 3 4 refl f3 (λ k. no_true (c.if-breaks_once.ensures.1 k)) in
    let f5 = free_more s t b 4 5 refl f4 (λ k. no_true (c.if-breaks_lanes.ensures.1 k)) in
    let f6 = free_more s t b 5 6 refl f5 (λ k. no_true (c.if-breaks_statements.ensures.1 k)) in
    let f7 = free_more s t b 6 7 refl f6 (λ k. no_true (c.if-breaks_buffers.ensures.1 k)) in
    let f8 = free_more s t b 7 8 refl f7 (λ k. no_true (c.if-breaks_states.ensures.1 k)) in
    least s t b 8 f8 (c.if-breaks_conflicts.ensures.0 refl)

pub returns-then-breaks_readers : goal.returns-then-breaks_readers
returns-then-breaks_readers c =
    let s = c.args.scenario.now in
    let t = c.args.past.now in
    let part = c.args.part.now in
    let b = starts_in part in
    let f3 = c.requires.free in
    let f4 = free_more s t b 3 4 refl f3 (λ k. no_true (c.if-breaks_once.ensures.1 k)) in
    let f5 = free_more s t b 4 5 refl f4 (λ k. no_true (c.if-breaks_lanes.ensures.1 k)) in
    let f6 = free_more s t b 5 6 refl f5 (λ k. no_true (c.if-breaks_statements.ensures.1 k)) in
    let f7 = free_more s t b 6 7 refl f6 (λ k. no_true (c.if-breaks_buffers.ensures.1 k)) in
    let f8 = free_more s t b 7 8 refl f7 (λ k. no_true (c.if-breaks_states.ensures.1 k)) in
    let f9 = free_more s t b 8 9 refl f8 (λ k. no_true (c.if-breaks_conflicts.ensures.1 k)) in
    let f10 = free_more s t b 9 10 refl f9 (starts_not_nine s t part) in
    let f11 = free_more s t b 10 11 refl f10 (starts_not_ten s t part) in
    least s t b 11 f11 (c.if-breaks_readers.ensures.0 refl)

pub returns : goal.returns
returns c =
    let s = c.args.scenario.now in
    let t = c.args.past.now in
    let part = c.args.part.now in
    let b = starts_in part in
    let f3 = c.requires.free in
    let f4 = free_more s t b 3 4 refl f3 (λ k. no_true (c.if-breaks_once.ensures.1 k)) in
    let f5 = free_more s t b 4 5 refl f4 (λ k. no_true (c.if-breaks_lanes.ensures.1 k)) in
    let f6 = free_more s t b 5 6 refl f5 (λ k. no_true (c.if-breaks_statements.ensures.1 k)) in
    let f7 = free_more s t b 6 7 refl f6 (λ k. no_true (c.if-breaks_buffers.ensures.1 k)) in
    let f8 = free_more s t b 7 8 refl f7 (λ k. no_true (c.if-breaks_states.ensures.1 k)) in
    let f9 = free_more s t b 8 9 refl f8 (λ k. no_true (c.if-breaks_conflicts.ensures.1 k)) in
    let f10 = free_more s t b 9 10 refl f9 (starts_not_nine s t part) in
    let f11 = free_more s t b 10 11 refl f10 (starts_not_ten s t part) in
    let f12 = free_more s t b 11 12 refl f11 (λ k. no_true (c.if-breaks_readers.ensures.1 k)) in
    free_all s t b f12
