use Rattle.std.proofs.Common.{rules, ◌≡◌, ◌<◌, ◌+◌, ◌^◌, w64, pos, ◌≤ℤ◌, nat_abs, FitsSigned, to_z, of_z}
use Rattle.pst_narrow.specs.Narrowing.{LiesIn}
use Rattle.pst_narrow.specs.Elements.{OneLiesIn}
use Rattle.pst_narrow.proofs.NarrowLemmas.{step_from}
use Rattle.pst_narrow.proofs.ElementLemmas.{only_lies, in_order, not_below, natural_is, some_of}
use Rattle.pst_narrow.proofs.element.meet_element.Goals as goal

pub returns-in-Some : goal.returns-in-Some
returns-in-Some c =
    let s = c.args.places in
    let first = c.args.first in
    let f0 : FitsSigned w64 s.low = search rules in
    let f1 : FitsSigned w64 s.high = search rules in
    let m = nat_abs (to_z w64 (of_z w64 s.low)) in
    let order : s.high ≤ℤ s.low = in_order s.high s.low f1 f0 c.if-places.false in
    let is : s.low ≡ pos m = natural_is s.low f0 (not_below s.low f0 c.if-places-lt0.false) in
    let e : c.in-Some.variable ≡ first + m = some_of c.checked_add.result (first + m < 2 ^ 32) (first + m) c.in-Some.variable c.checked_add.ensures c.in-Some.is in
    step_from (OneLiesIn first c.args.count s c.args.wanted) (LiesIn c.in-Some.variable c.args.wanted) c.args.bounds.now c.meet.new.bounds c.args.trail.now c.meet.new.trail c.meet.result c.meet.ensures.step
    (λ values one within. only_lies first c.args.count m c.in-Some.variable c.args.wanted s values order is e one)
