use Rattle.std.proofs.Common.{◌<◌, ◌≤◌, sym, subst, arith}
use Rattle.pst_search_places.specs.Laws.{IsOfPlaces}
use Rattle.pst_list_values.specs.Walked.{kept_of}
use Rattle.pst_list_values.proofs.Skips.{start_below, skips_here}
use Rattle.pst_list_values.proofs.skipping.skip_values.Goals as goal

-- where nothing is skipped

pub returns-in_default-clause-skips : goal.returns-in_default-clause-skips
returns-in_default-clause-skips c = c.nothing.ensures (kept_of c.args.lists.now) c.args.count c.requires.named

-- where values are

pub start-requires : goal.start-requires
start-requires c = let some = c.in-Some.ensures.some in let most = c.requires.named in omega (arith, some, most)

pub skip-requires-clause-start : goal.skip-requires-clause-start
skip-requires-clause-start c =
    let k = c.args.lists.now in
    let some = c.in-Some.ensures.some in
    let most = c.requires.named in
    subst (λ n. c.in_ok-start.start < n) (sym c.in-Some.ensures.size) (subst (λ s. s < c.args.count) (sym c.in_ok-start.ensures) (start_below k.seed _ c.args.count (omega (arith, some, most))))

pub skip-requires-clause-from : goal.skip-requires-clause-from
skip-requires-clause-from c = subst (λ n. c.args.from ≤ n) (sym c.in-Some.ensures.size) c.requires.named

pub returns-clause-skips : goal.returns-clause-skips
returns-clause-skips c =
    let k = c.args.lists.now in
    let spans = c.in-Some.domain.now in
    let usable = c.in-Some.ensures in
    skips_here k c.args.front c.requires.given.0 c.args.valued.now c.requires.given.1 spans usable.domain c.in_ok-start.start c.args.count c.in_ok-start.ensures usable.size c.excluded_values_hold_nothing.ensures c.few_places_exclude.ensures
    (c.domains_list_values.ensures spans usable.sound) c.requires.options c.args.from c.in_ok-found.found c.in_ok-conflict.conflict c.in_ok-found.ensures.skips
    (subst (IsOfPlaces c.in_ok-conflict.conflict c.args.front) c.as_slice.ensures.value c.in_ok-conflict.ensures)
