use Rattle.std.proofs.Common.{length, refl, ap, arith}
use Rattle.pst_book.specs.Books.{View}
use Rattle.pst_desk.specs.Turning.{NoGroup}
use Rattle.pst_desk.proofs.Openings.{opened_more, shut_after}
use Rattle.pst_desk.proofs.opening.open_groups.Goals as goal

pub groups-init : goal.groups-init
groups-init c = record { same = refl; opens = NoGroup; few = omega arith }

pub groups-smaller : goal.groups-smaller
groups-smaller c =
    let i = c.groups.invariant in
    let m = opened_more c.args.book.now c.groups.book c.open.new.self c.in-Some.field-0.first c.in-Some.field-0.count c.groups.opened i.same i.opens c.in-Some.ensures.step in
    let fits = c.in-Some.ensures.fits in
    let same = ap (λ (v : View). length v.scenario.actions) m.same in
    let longer = m.longer in
    omega (arith, fits, same, longer)

pub groups-preserved : goal.groups-preserved
groups-preserved c =
    let i = c.groups.invariant in
    let m = opened_more c.args.book.now c.groups.book c.open.new.self c.in-Some.field-0.first c.in-Some.field-0.count c.groups.opened i.same i.opens c.in-Some.ensures.step in
    let longer = m.longer in
    let few = i.few in
    record { same = m.same; opens = m.opens; few = omega (arith, few, longer) }

pub returns-clause-shut : goal.returns-clause-shut
returns-clause-shut c = shut_after c.open.result c.groups.book c.open.new.self c.open.ensures.step c.in_default.not-Some
