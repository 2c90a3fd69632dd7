use Rattle.std.proofs.Common.{get_or}
use Rattle.std.proofs.lemmas.Option.{slice_get-get_or}
use Rattle.pst_loops.proofs.OneMore.{later, passed, taken, not_true, each_back, blank}
use Rattle.pst_loops.proofs.least.with_next.Goals as goal

pub returns-then-not-is_earlier : goal.returns-then-not-is_earlier
returns-then-not-is_earlier c =
    let ds = c.args.declarations.now in
    later c.places_are_ordered.ensures.one c.args.at ds (get_or ds c.args.at blank) c.args.found (slice_get-get_or ds c.args.at blank c.requires.within)
    (λ e. not_true c.is_earlier.result c.if-not-is_earlier.true (c.is_earlier.ensures.1 e)) c.requires.found

pub returns-then-not-branch : goal.returns-then-not-branch
returns-then-not-branch c =
    let ds = c.args.declarations.now in
    let there = slice_get-get_or ds c.args.at blank c.requires.within in
    passed c.args.at ds (get_or ds c.args.at blank) c.args.found there
    (λ back. not_true c.in_ok-leads_back.field-0 c.if-not-branch.true (c.in_ok-leads_back.ensures.1 (each_back ds c.args.at (get_or ds c.args.at blank) there back))) c.requires.found

pub returns : goal.returns
returns c =
    let ds = c.args.declarations.now in
    let there = slice_get-get_or ds c.args.at blank c.requires.within in
    taken c.places_are_ordered.ensures.on c.args.at ds (get_or ds c.args.at blank) c.args.found there
    (c.in_ok-leads_back.ensures.0 c.if-not-branch.false (get_or ds c.args.at blank) there) (c.is_earlier.ensures.0 c.if-not-is_earlier.false) c.requires.found
