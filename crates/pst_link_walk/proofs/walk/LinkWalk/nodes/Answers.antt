use Rattle.pst_link_walk.proofs.Answering.{nodes_are}
use Rattle.pst_link_walk.proofs.walk.LinkWalk.nodes.Goals as goal
use Rattle.std.proofs.Common.{◌≡◌, subst}
use Rattle.pst_shape.specs.Walks.{IfRead}
use Rattle.pst_link_walk.specs.Walks.{answer}
use Rattle.pst_link_walk.proofs.Beginning.{shape_reads}

pub returns : goal.returns
returns c =
    let w = c.self.inside in
    subst (λ k. IfRead (answer k) (λ s. c.nodes.result.now ≡ s.nodes)) c.self.view_is
    (nodes_are w.model.now w.root w.seed w.level w.shape.choices w.supply c.nodes.result.now c.self.invariant.stands
    (subst (λ a. IfRead a (λ s. c.nodes.result.now ≡ s.nodes)) (shape_reads w.model.now w.root w.seed w.level w.shape.choices w.shape c.self.invariant.shape) (c.nodes.ensures w.level)))
