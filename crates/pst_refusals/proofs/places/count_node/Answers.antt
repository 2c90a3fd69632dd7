use Rattle.std.proofs.Common.{◌≡◌, Some, None, get_or, refl, sym, ◌∙◌, subst, arith}
use Rattle.std.proofs.lemmas.Option.{none-some, same_Some}
use Rattle.std.proofs.lemmas.Bool.{ne_eqb}
use Rattle.std.proofs.lemmas.List.{get_or_read}
use Rattle.pst_refusals.specs.Counted.{IsPlace}
use Rattle.pst_refusals.proofs.Counting.{uncounted, counted, room_left, place_read}
use Rattle.pst_refusals.proofs.places.count_node.Goals as goal

pub returns-in_default-clause-counted : goal.returns-in_default-clause-counted
returns-in_default-clause-counted c =
    uncounted c.args.nodes.now c.args.counts.now.items c.args.n None c.requires.inside (sym c.parent_of.ensures ∙ c.in_default.is) (λ p l. refl) c.requires.counted

pub returns-in_default-clause-place : goal.returns-in_default-clause-place
returns-in_default-clause-place c = λ p is inside. absurd (none-some p (sym (sym c.parent_of.ensures ∙ c.in_default.is) ∙ is))

pub returns-then-parent-len-clause-counted : goal.returns-then-parent-len-clause-counted
returns-then-parent-len-clause-counted c =
    let high = c.if-parent-len.true in
    let len = c.len.ensures in
    let many = c.requires.counted.many in
    uncounted c.args.nodes.now c.args.counts.now.items c.args.n (Some c.in-Some.parent) c.requires.inside (sym c.parent_of.ensures ∙ c.in-Some.is)
    (λ p l. ne_eqb p c.in-Some.parent (λ same. omega (arith, same, l, high, len, many))) c.requires.counted

pub returns-then-parent-len-clause-place : goal.returns-then-parent-len-clause-place
returns-then-parent-len-clause-place c = λ p is inside.
    let high = c.if-parent-len.true in
    let len = c.len.ensures in
    let many = c.requires.counted.many in
    let same : c.in-Some.parent ≡ p = same_Some c.in-Some.parent p (sym (sym c.parent_of.ensures ∙ c.in-Some.is) ∙ is) in
    absurd (omega (arith, same, inside, high, len, many))

pub count_one-requires-clause-room : goal.count_one-requires-clause-room
count_one-requires-clause-room c =
    let low = c.if-parent-len.false in
    let len = c.len.ensures in
    let many = c.requires.counted.many in
    room_left c.args.nodes.now c.args.counts.now.items c.args.n c.in-Some.parent (omega (arith, low, len, many)) c.requires.counted c.requires.room

pub returns-clause-counted : goal.returns-clause-counted
returns-clause-counted c =
    let one = c.count_one.ensures in
    counted c.args.nodes.now c.args.counts.now.items c.count_one.new.counts.items c.args.n c.in-Some.parent c.requires.inside (sym c.parent_of.ensures ∙ c.in-Some.is) c.requires.counted one.many one.here one.others

pub returns-clause-place : goal.returns-clause-place
returns-clause-place c =
    let low = c.if-parent-len.false in
    let len = c.len.ensures in
    let items = c.args.counts.now.items in
    let read : c.index-place.result.now ≡ get_or items c.in-Some.parent 0 = get_or_read items c.in-Some.parent c.index-place.result.now (omega (arith, low, len)) c.index-place.ensures 0 in
    subst (IsPlace c.args.nodes.now c.args.n) (sym read) (place_read c.args.nodes.now items c.args.n c.in-Some.parent (sym c.parent_of.ensures ∙ c.in-Some.is) c.requires.counted)
