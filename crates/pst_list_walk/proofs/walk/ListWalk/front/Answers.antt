use Rattle.std.proofs.Common.{◌∙◌, subst}
use Rattle.pst_list_walk.specs.Walks.{HasFront}
use Rattle.pst_list_walk.proofs.Answering.{front_is}
use Rattle.pst_list_walk.proofs.walk.ListWalk.front.Goals as goal

pub returns-in_ok-count-in-Some : goal.returns-in_ok-count-in-Some
returns-in_ok-count-in-Some c =
    let w = c.self.inside in
    let n = c.in_ok-count-in-Some.count in
    subst (λ k. HasFront k n) c.self.view_is
    (front_is w.model.now w.root w.seed w.level w.links w.values c.in-Some._values n c.self.invariant.links c.in-Some.is c.self.invariant.stands c.ends.ensures (c.in_ok-count-in-Some.ensures ∙ c.in_ok-links-in-Some.ensures))
