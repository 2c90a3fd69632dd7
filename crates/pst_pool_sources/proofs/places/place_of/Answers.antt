use Rattle.std.proofs.Common.{◌<◌, length, get_or, sym, ◌∙◌, arith}
use Rattle.pst_ties.specs.declared.tied.End.{End}
use Rattle.std.proofs.lemmas.List.{get_or_default}
use Rattle.pst_pool_sources.proofs.Rising.{at_none, at_other, at_place}
use Rattle.pst_pool_sources.proofs.places.place_of.Goals as goal

pub returns-then-place-ends-clause-is : goal.returns-then-place-ends-clause-is
returns-then-place-ends-clause-is c =
    let place = c.count_before-place.result in
    at_none c.args.ends.now c.args.end place c.requires c.count_before-place.ensures.before c.count_before-place.ensures.others (omega arith)

pub returns-then-is_same-clause-is : goal.returns-then-is_same-clause-is
returns-then-is_same-clause-is c =
    let place = c.count_before-place.result in
    let l : place < length c.args.ends.now = omega arith in
    let d : End = record { act = 0; reference = 0 } in
    let x = get_or c.args.ends.now place d in
    at_place c.args.ends.now c.args.end place c.requires c.count_before-place.ensures.before c.count_before-place.ensures.others l x (get_or_default c.args.ends.now place d x l)
    (sym c.is_same.ensures ∙ c.if-is_same.true)

pub returns-clause-is : goal.returns-clause-is
returns-clause-is c =
    let place = c.count_before-place.result in
    let l : place < length c.args.ends.now = omega arith in
    let d : End = record { act = 0; reference = 0 } in
    let x = get_or c.args.ends.now place d in
    at_other c.args.ends.now c.args.end place c.requires c.count_before-place.ensures.before c.count_before-place.ensures.others l x (get_or_default c.args.ends.now place d x l)
    (sym c.is_same.ensures ∙ c.if-is_same.false)
