use Rattle.std.proofs.Common.{subst}
use Rattle.std.specs.Prelude.{IfSome}
use Rattle.pst_list_walk.specs.Walks.{HasFront}
use Rattle.pst_search.proofs.Looks.{rests, rests_behind}
use Rattle.pst_search.proofs.looking.rests_on.Goals as goal

pub returns-in_default : goal.returns-in_default
returns-in_default c = rests c.args.lists.now c.places_rest_on_earlier_ones.ensures c.args.count c.requires c.in_ok-all.all c.in_ok-all.ensures

pub returns : goal.returns
returns c =
    let k = c.args.lists.now in
    rests_behind k c.places_rest_on_the_sources.ensures c.args.count c.in-Some.front c.requires c.in_ok-last.last (subst (λ o. IfSome o (λ n. HasFront k n)) c.in-Some.is c.in_ok-front.ensures) c.in_ok-last.ensures
