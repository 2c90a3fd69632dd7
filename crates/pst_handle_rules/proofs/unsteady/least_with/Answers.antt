use Rattle.std.proofs.Common.{◌≡◌, map, sym, ap, subst, ◌∙◌, true≢false, Some}
use Rattle.std.proofs.lemmas.Option.{get_or_from_slice_get}
use Rattle.pst_ast.specs.DeclarationView.{view_unit}
use Rattle.pst_name_rules.specs.Earlier.{earlier}
use Rattle.pst_handle_uses.specs.declared.handle_use.Judging.{Judging}
use Rattle.pst_handle_rules.specs.Judged.{IsBroken, broken_at}
use Rattle.pst_handle_rules.proofs.Firsts.{there_is}
use Rattle.pst_handle_rules.proofs.Steady.{later_same, broken_next, whole_same}
use Rattle.pst_handle_rules.proofs.unsteady.least_with.Goals as goal

pub returns-then-is_same_finding : goal.returns-then-is_same_finding
returns-then-is_same_finding c =
    let units = map view_unit c.args.sites.now in
    let js = c.args.judgings.now in
    let at = c.args.at in
    let least = c.args.least in
    let j = there_is js at c.requires.within in
    let next = c.earlier-next.ensures ∙ ap (λ (x : Judging). earlier least (Some (broken_at x))) (get_or_from_slice_get js at j.0 _ j.1) in
    later_same c.places_are_ordered.ensures.on units js at j.0 j.1 least (sym next ∙ c.is_same_finding.ensures.0 c.if-is_same_finding.true) c.requires.least

pub returns-then-broken : goal.returns-then-broken
returns-then-broken c =
    let units = map view_unit c.args.sites.now in
    let js = c.args.judgings.now in
    let at = c.args.at in
    let least = c.args.least in
    let j = there_is js at c.requires.within in
    let next = c.earlier-next.ensures ∙ ap (λ (x : Judging). earlier least (Some (broken_at x))) (get_or_from_slice_get js at j.0 _ j.1) in
    broken_next c.places_are_ordered.ensures.on units js at j.0 j.1 least c.earlier-next.result next
    (subst (λ (x : Judging). IsBroken units x) (get_or_from_slice_get js at j.0 _ j.1) (c.in_ok-broken.ensures.0 c.if-broken.true)) c.requires.least

pub returns-else-broken : goal.returns-else-broken
returns-else-broken c =
    let units = map view_unit c.args.sites.now in
    let js = c.args.judgings.now in
    let at = c.args.at in
    let j = there_is js at c.requires.within in
    whole_same c.places_are_ordered.ensures.on units js at j.0 j.1 c.args.least
    (λ broken. true≢false (sym (c.in_ok-broken.ensures.1 (subst (λ (x : Judging). IsBroken units x) (sym (get_or_from_slice_get js at j.0 _ j.1)) broken)) ∙ c.if-broken.false)) c.requires.least
