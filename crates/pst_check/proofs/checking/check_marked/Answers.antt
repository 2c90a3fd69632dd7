use Rattle.std.proofs.Common.{◌+◌, ◌<◌, ◌≤◌, ◌∙◌, length, arith}
use Rattle.std.proofs.lemmas.Bool.Decides.{nat_tests}
use Rattle.pst_check.proofs.Going.{judged_first, judged_few, judged_all, next_at, bad_at, marks_at, completed_is}
use Rattle.pst_check.proofs.checking.check_marked.Goals as goal

pub judged-init : goal.judged-init
judged-init c = record {
  judged = judged_first c.args.scenario.now c.args.plan.now c.args.events.now c.args.followed.events c.args.followed.blocks c.rule_is_prefix.ensures c.requires.links c.requires.planned c.requires.followed;
  marks = c.requires.marks;
}

pub returns-in-Some : goal.returns-in-Some
returns-in-Some c =
    bad_at c.args.scenario.now c.args.events.now c.judged.first c.judged.block c.first_block-count.result c.behind-rest.result.now c.new-past.result c.front-part.result.now
    c.behind-rest.ensures (c.new-past.ensures ∙ c.front-earlier.ensures) c.front-part.ensures c.judged.invariant.judged c.first_block-count.ensures
    c.args.plan.now c.unbroken_is_begun.ensures c.requires.links c.requires.planned c.in-Some.rule c.in-Some.ensures

pub overflow_add-block : goal.overflow_add-block
overflow_add-block c =
    record { fits = judged_few c.args.scenario.now c.args.events.now c.judged.first c.judged.block c.prefix_is_by_rule.ensures c.rule_fits.ensures.fits c.requires.small c.judged.invariant.judged }

pub judged-preserved : goal.judged-preserved
judged-preserved c = record {
  judged = next_at c.args.scenario.now c.args.events.now c.judged.first c.judged.block c.first_block-count.result c.behind-rest.result.now c.new-past.result c.front-part.result.now
      c.behind-rest.ensures (c.new-past.ensures ∙ c.front-earlier.ensures) c.front-part.ensures c.judged.invariant.judged c.first_block-count.ensures
      c.args.plan.now c.unbroken_is_begun.ensures c.requires.links c.requires.planned c.in_default.ensures;
  marks = marks_at c.args.scenario.now c.args.events.now c.judged.first c.judged.block c.first_block-count.result c.behind-rest.result.now c.new-past.result c.front-part.result.now
      c.behind-rest.ensures (c.new-past.ensures ∙ c.front-earlier.ensures) c.front-part.ensures c.judged.invariant.judged c.first_block-count.ensures
      c.note.new.started c.note.new.ended (c.note.ensures _ c.judged.invariant.marks);
}

pub returns : goal.returns
returns c =
    let past : length c.args.events.now ≤ c.judged.first = grind (arith, nat_tests, c.judged-test.false) in
    completed_is c.args.scenario.now c.args.plan.now c.args.events.now c.new-all.result c.completed.result c.prefixes_are_legal.ensures c.requires.planned c.new-all.ensures
    (judged_all c.args.scenario.now c.args.events.now c.judged.first c.judged.block past c.judged.invariant.judged) c.completed.ensures

pub overflow_cast-block : goal.overflow_cast-block
overflow_cast-block c =
    let s = c.args.scenario.now in
    let first = c.args.followed.events in
    let block = c.args.followed.blocks in
    let judged = judged_first s c.args.plan.now c.args.events.now first block c.rule_is_prefix.ensures c.requires.links c.requires.planned c.requires.followed in
    let more : block + 1 < 4294967296 = judged_few s c.args.events.now first block c.prefix_is_by_rule.ensures c.rule_fits.ensures.fits c.requires.small judged in
    record { fits = let fits : block < 4294967296 = omega (arith, more) in fits }
