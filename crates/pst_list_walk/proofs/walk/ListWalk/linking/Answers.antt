use Rattle.std.proofs.Common.{◌≡◌, subst}
use Rattle.pst_model.specs.ModelView.{view_model}
use Rattle.pst_shape.specs.Walks.{IfRead}
use Rattle.pst_order_ahead.specs.LaidOut.{ReadsTree}
use Rattle.pst_list_walk.specs.Walks.{answer}
use Rattle.pst_list_walk.proofs.Refusing.{inside_copied, inside_tree}
use Rattle.pst_list_walk.proofs.walk.ListWalk.linking.Goals as goal

pub returns-in_ok-linked-in-None-clause-read : goal.returns-in_ok-linked-in-None-clause-read
returns-in_ok-linked-in-None-clause-read c =
    let w = c.self.inside in
    let s = c.in_ok-linked-in-None.linked in
    subst (λ k. IfRead (answer k) (λ t. s ≡ t)) c.self.view_is
    (inside_copied w.model.now w.root w.seed w.level w.links w.values s c.self.invariant.links c.in-None.is c.self.invariant.stands c.ends.ensures c.in_ok-linked-in-None.ensures)

pub returns-in_ok-linked-in-None-clause-tree : goal.returns-in_ok-linked-in-None-clause-tree
returns-in_ok-linked-in-None-clause-tree c =
    let w = c.self.inside in
    subst (λ k. ReadsTree (view_model k.model) k.root k.seed k.level k.choices) c.self.view_is
    (inside_tree w.model.now w.root w.seed w.level w.links w.values c.self.invariant.links c.in-None.is (c.is_behind.ensures c.if-not-is_behind.false))
