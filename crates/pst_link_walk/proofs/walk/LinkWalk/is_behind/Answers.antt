use Rattle.std.proofs.Common.{subst}
use Rattle.pst_link_walk.specs.Walks.{HasTree}
use Rattle.pst_link_walk.proofs.Ends.{behind_tree}
use Rattle.pst_link_walk.proofs.walk.LinkWalk.is_behind.Goals as goal

pub returns-in-Some : goal.returns-in-Some
returns-in-Some c =
    let w = c.self.inside in
    λ e. subst HasTree c.self.view_is (behind_tree w.model.now w.root w.seed w.level w.shape.choices w.supply c.in-Some._supply c.in-Some.is c.self.invariant.stands)
