use Rattle.std.proofs.Common.{◌≡◌, subst}
use Rattle.pst_shape.specs.Walks.{IfRead}
use Rattle.pst_list_walk.specs.Walks.{answer}
use Rattle.pst_list_walk.proofs.Refusing.{inside_copied}
use Rattle.pst_list_walk.proofs.walk.ListWalk.so_far.Goals as goal

pub returns-in_ok-linked-in-None : goal.returns-in_ok-linked-in-None
returns-in_ok-linked-in-None c =
    let w = c.self.inside in
    let s = c.in_ok-linked-in-None.linked in
    subst (λ k. IfRead (answer k) (λ t. s ≡ t)) c.self.view_is
    (inside_copied w.model.now w.root w.seed w.level w.links w.values s c.self.invariant.links c.in-None.is c.self.invariant.stands c.ends.ensures c.in_ok-linked-in-None.ensures)
