use Rattle.std.proofs.Common.{◌≡◌, ◌+◌, ◌-◌, ◌<◌, length, map, sym, subst, ap, arith}
use Rattle.std.proofs.lemmas.Option.{slice_get_within}
use Rattle.pst_expr.specs.Tree.{view}
use Rattle.pst_reasons.specs.Firsts.{AreFirsts}
use Rattle.pst_reasons.proofs.BackLemmas.{IsGoingBack, begin, before_step, step_room, step_known, at_stop, at_end, cut_part}
use Rattle.pst_reasons.proofs.MarkLemmas.{has_of_row, row_of_has}
use Rattle.pst_reasons.proofs.reasons.Narrowed.reasons.Goals as goal

pub variables_of-requires : goal.variables_of-requires
variables_of-requires c =
    let es = map view c.args.self.now.constraints.items in
    let small = slice_get_within es c.args.failed c.requires.unmet.0 c.requires.unmet.1 in
    let lists = c.requires.watch.lists in
    omega (arith, small, lists)

pub mark_changed-requires : goal.mark_changed-requires
mark_changed-requires c v there =
    let below = c.requires.watch.small c.args.failed v (has_of_row c.args.self.now.watch c.args.failed v c.variables_of.result.now c.variables_of.ensures there) in
    let count = ap length c.spans.ensures in
    omega (arith, below, count, c.in_ok-make_room.ensures)

pub loop-left-init : goal.loop-left-init
loop-left-init c =
    let s = c.args.self.now in
    let count = ap length c.spans.ensures in
    let long = c.mark_changed.ensures.long in
    begin (map view s.constraints.items) s.given.items s.watch c.as_slice-firsts.result.now s.steps.items s.trail s.bounds (length s.bounds) c.args.failed _ _ c.requires.unmet.0 _ _ c.requires.watch c.requires.unmet.1 c.requires.unmet.2 c.requires.explained
    (omega (arith, count, long, c.in_ok-make_room.ensures))
    (subst (λ xs. AreFirsts xs s.trail) (sym c.as_slice-firsts.ensures.value) c.requires.firsts)
    (λ v has. c.mark_changed.ensures.marked v (row_of_has s.watch c.args.failed v c.variables_of.result.now c.variables_of.ensures has))
    (omega (arith, c.len-left.ensures)) (ap length c.formers-formers.ensures) c.new-places.ensures.items

pub returns-then-is_empty : goal.returns-then-is_empty
returns-then-is_empty c =
    let s = c.args.self.now in
    at_stop (map view s.constraints.items) s.given.items s.steps.items s.trail s.bounds c.loop-left.left c.loop-left.end (length s.bounds) c.loop-left.marks c.loop-left.places.items (c.is_empty.ensures c.if-is_empty.true) c.loop-left.invariant

pub step_back-requires : goal.step_back-requires
step_back-requires c =
    let s = c.args.self.now in
    let h = c.loop-left.invariant in
    let room = h.left_room in
    let some : 0 < c.loop-left.left = omega (arith, c.loop-left-test.true) in
    let whole : c.loop-left.left ≡ c.loop-left.left - 1 + 1 = omega (arith, some) in
    let here = subst (λ k. IsGoingBack (map view s.constraints.items) s.given.items s.steps.items s.trail s.bounds k c.loop-left.end (length s.bounds) c.loop-left.marks c.loop-left.places.items) whole h in
    step_known (map view s.constraints.items) s.given.items s.watch s.steps.items s.trail s.bounds (c.loop-left.left - 1) c.loop-left.end (length s.bounds) _ c.index-step.result.now c.index-step.result.now c.loop-left.marks c.loop-left.places.items c.requires.watch h.long (omega (arith, some, room)) c.index-step.ensures here

pub loop-left-preserved : goal.loop-left-preserved
loop-left-preserved c =
    let s = c.args.self.now in
    let h = c.loop-left.invariant in
    let room = h.left_room in
    let some : 0 < c.loop-left.left = omega (arith, c.loop-left-test.true) in
    let whole : c.loop-left.left ≡ c.loop-left.left - 1 + 1 = omega (arith, some) in
    let here = subst (λ k. IsGoingBack (map view s.constraints.items) s.given.items s.steps.items s.trail s.bounds k c.loop-left.end (length s.bounds) c.loop-left.marks c.loop-left.places.items) whole h in
    let less = step_room (map view s.constraints.items) s.given.items s.steps.items s.trail s.bounds (c.loop-left.left - 1) c.loop-left.end (length s.bounds) c.index-step.result.now c.index-step.result.now c.loop-left.marks c.loop-left.places.items (omega (arith, some, room)) c.index-step.ensures here in
    before_step (map view s.constraints.items) s.given.items s.watch (length s.bounds) c.as_slice-firsts.result.now s.steps.items s.trail s.bounds (c.loop-left.left - 1) c.loop-left.end c.index-step.result.now c.index-step.result.now _ c.loop-left.marks c.step_back.new.marks c.loop-left.places.items c.step_back.new.places.items (omega (arith, some, room)) c.index-step.ensures (cut_part c.index-step.result.now.mark c.loop-left.end s.trail c.formers-formers.result.now c.formers-formers.ensures less) c.requires.watch
    (subst (λ xs. AreFirsts xs s.trail) (sym c.as_slice-firsts.ensures.value) c.requires.firsts) c.in_ok-step_back.ensures here

pub returns : goal.returns
returns c =
    let s = c.args.self.now in
    let none : c.loop-left.left ≡ 0 = omega (arith, c.loop-left-test.false) in
    let h = subst (λ k. IsGoingBack (map view s.constraints.items) s.given.items s.steps.items s.trail s.bounds k c.loop-left.end (length s.bounds) c.loop-left.marks c.loop-left.places.items) none c.loop-left.invariant in
    at_end (map view s.constraints.items) s.given.items s.steps.items s.trail s.bounds c.loop-left.end (length s.bounds) c.loop-left.marks c.loop-left.places.items h
