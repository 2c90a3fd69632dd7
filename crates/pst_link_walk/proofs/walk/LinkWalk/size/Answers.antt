use Rattle.std.proofs.Common.{◌≡◌, Some, subst, map, length}
use Rattle.pst_shape_parts.specs.Trees.{bare}
use Rattle.pst_shape.specs.Walks.{IfRead}
use Rattle.pst_link_walk.specs.News.{IsSize}
use Rattle.pst_link_walk.proofs.Beginning.{shape_reads}
use Rattle.pst_link_walk.proofs.Sizes.{size_is}
use Rattle.pst_link_walk.proofs.walk.LinkWalk.size.Goals as goal

pub returns-in-None : goal.returns-in-None
returns-in-None c =
    let w = c.self.inside in
    let leaves = c.leaves.result.now in
    subst (λ k. IsSize k (Some (length leaves))) c.self.view_is
    (size_is w.model.now w.root w.seed w.level w.shape.choices w.supply leaves c.in-None.is c.self.invariant.stands
    (subst (λ a. IfRead a (λ s. leaves ≡ map bare s.actions)) (shape_reads w.model.now w.root w.seed w.level w.shape.choices w.shape c.self.invariant.shape) (c.leaves.ensures w.level)))
