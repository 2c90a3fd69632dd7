use Rattle.std.proofs.Common.{◌∙◌, ap, length}
use Rattle.pst_list_walk.proofs.Answering.{many}
use Rattle.pst_list_walk.proofs.walk.ListWalk.count.Goals as goal

pub returns : goal.returns
returns c =
    let w = c.self.inside in
    c.in_ok-places.ensures
    ∙ many w.model.now w.root w.seed w.level w.links.choices w.values c.in_ok-links.links w.valued c.in_ok-count.count c.in_ok-links.ensures c.self.invariant.valued c.in_ok-count.ensures
    ∙ ap (λ k. length k.choices) c.self.view_is
