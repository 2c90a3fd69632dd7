use Rattle.std.proofs.Common.{◌<◌, length, None, arith}
use Rattle.pst_narrow.specs.declared.trail.Former.{Former}
use Rattle.pst_reasons.proofs.FirstLemmas.{none_noted, one_noted, all_noted}
use Rattle.pst_reasons.proofs.firsts.note_changes.Goals as goal

pub loop-at-init : goal.loop-at-init
loop-at-init c = none_noted c.args.formers.now c.args.mark c.args.firsts.now.items

pub loop-at-preserved : goal.loop-at-preserved
loop-at-preserved c =
    let none : Former = record { variable = 0; bound = None } in
    let below : c.loop-at.at < length c.args.formers.now = omega (arith, c.loop-at-test.true) in
    one_noted c.args.formers.now c.args.mark c.loop-at.at none c.args.firsts.now.items c.loop-at.firsts.items c.note_change.new.firsts.items below c.note_change.ensures.no_later c.note_change.ensures.noted c.loop-at.invariant

pub returns : goal.returns
returns c = all_noted c.args.formers.now c.args.mark c.loop-at.at c.args.firsts.now.items c.loop-at.firsts.items (omega (arith, c.loop-at-test.false)) c.loop-at.invariant
