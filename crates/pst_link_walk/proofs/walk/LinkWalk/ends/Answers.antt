use Rattle.std.proofs.Common.{subst}
use Rattle.pst_link_walk.specs.Walks.{reading, AtEnd}
use Rattle.pst_link_walk.proofs.Ends.{stands_end}
use Rattle.pst_link_walk.proofs.walk.LinkWalk.ends.Goals as goal

pub returns : goal.returns
returns c =
    let w = c.self.inside in
    subst (λ k. AtEnd k (reading k)) c.self.view_is (stands_end w.model.now w.root w.seed w.level w.shape.choices w.supply c.self.invariant.stands)
