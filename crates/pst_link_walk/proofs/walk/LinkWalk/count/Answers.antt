use Rattle.std.proofs.Common.{◌∙◌, ap, length}
use Rattle.pst_link_walk.proofs.Answering.{many}
use Rattle.pst_link_walk.proofs.walk.LinkWalk.count.Goals as goal

pub returns : goal.returns
returns c =
    let w = c.self.inside in
    many w.model.now w.root w.seed w.level w.shape.choices w.supply w.made w.linked c.in_ok-count.count c.self.invariant.made c.self.invariant.linked c.in_ok-count.ensures ∙ ap (λ k. length k.choices) c.self.view_is
