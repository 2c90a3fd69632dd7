use Rattle.std.proofs.Common.{sym, subst, ◌∙◌}
use Rattle.pst_model.specs.ModelView.{view_model}
use Rattle.pst_link_walk.specs.News.{IsNews}
use Rattle.pst_new_refusals.specs.Newly.{StaysFree}
use Rattle.pst_list_walk.proofs.Going.{freed_on}
use Rattle.pst_list_walk.proofs.Seen.{place_earlier}
use Rattle.pst_list_walk.proofs.walk.is_freed.Goals as goal

pub is_unrefused-requires-clause-earlier : goal.is_unrefused-requires-clause-earlier
is_unrefused-requires-clause-earlier c = place_earlier c.nodes_stand_for_pieces.ensures.pieces c.args.links.now c.nodes.result.now c.in-Options._count (sym c.next.ensures ∙ c.in-Options.is) c.nodes.ensures

pub returns : goal.returns
returns c = λ so root seed level digit.
    let m = view_model c.args.model.now in
    let far = c.args.far.now.some in
    let nodes = c.nodes.result.now in
    let acts = c.in-Some-given_acts.acts.now in
    let fresh = c.in-Some.fresh in
    freed_on c.args.model.now root seed level digit c.args.size c.args.nodes c.args.links.now far nodes acts fresh (subst (IsNews c.args.links.now c.args.size) c.in-Some.is c.in-Ok.ensures) c.nodes.ensures c.in-Some-given_acts.ensures
    (subst (λ n. StaysFree m far nodes acts n fresh.items) c.saturating_sub-from.ensures
    (subst (StaysFree m far nodes acts c.saturating_sub-from.result) c.deref.ensures.value (c.is_unrefused.ensures so)))
