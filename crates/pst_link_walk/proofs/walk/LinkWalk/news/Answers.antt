use Rattle.std.proofs.Common.{◌≡◌, subst, map}
use Rattle.pst_shape_parts.specs.Trees.{bare}
use Rattle.pst_shape.specs.Walks.{IfRead}
use Rattle.pst_supply.specs.Walks.{IsChange}
use Rattle.pst_link_walk.specs.News.{IsNews}
use Rattle.pst_link_walk.proofs.Beginning.{shape_reads}
use Rattle.pst_link_walk.proofs.News.{none_news, first_news, change_news}
use Rattle.pst_link_walk.proofs.walk.LinkWalk.news.Goals as goal

pub returns-in_ok-acts-in-None : goal.returns-in_ok-acts-in-None
returns-in_ok-acts-in-None c =
    let w = c.self.inside in
    let leaves = c.leaves.result.now in
    subst (λ k. IsNews k c.args.size c.in_ok-acts-in-None.acts) c.self.view_is
    (none_news w.model.now w.root w.seed w.level w.shape.choices w.supply c.args.size leaves c.in_ok-acts-in-None.acts c.in-None.is c.self.invariant.stands
    (subst (λ a. IfRead a (λ s. leaves ≡ map bare s.actions)) (shape_reads w.model.now w.root w.seed w.level w.shape.choices w.shape c.self.invariant.shape) (c.leaves.ensures w.level)) c.in_ok-acts-in-None.ensures)

pub returns-in_ok-acts-in-None-change : goal.returns-in_ok-acts-in-None-change
returns-in_ok-acts-in-None-change c =
    let w = c.self.inside in
    let leaves = c.leaves-in-None-change.result.now in
    subst (λ k. IsNews k c.args.size c.in_ok-acts-in-None-change.acts) c.self.view_is
    (first_news w.model.now w.root w.seed w.level w.shape.choices w.supply c.in-Some.supply c.args.size leaves c.in_ok-acts-in-None-change.acts c.in-Some.is c.self.invariant.stands
    (subst (IsChange c.in-Some.supply) c.in-None-change.is c.change.ensures)
    (subst (λ a. IfRead a (λ s. leaves ≡ map bare s.actions)) (shape_reads w.model.now w.root w.seed w.level w.shape.choices w.shape c.self.invariant.shape) (c.leaves-in-None-change.ensures w.level)) c.in_ok-acts-in-None-change.ensures)

pub returns-in_ok-acts-in-Some-change : goal.returns-in_ok-acts-in-Some-change
returns-in_ok-acts-in-Some-change c =
    let w = c.self.inside in
    subst (λ k. IsNews k c.args.size c.in_ok-acts-in-Some-change.acts) c.self.view_is
    (change_news w.model.now w.root w.seed w.level w.shape.choices w.supply c.in-Some.supply c.args.size c.in-Some-change.change c.actions.result.now c.in_ok-acts-in-Some-change.acts c.in-Some.is c.self.invariant.stands
    (subst (IsChange c.in-Some.supply) c.in-Some-change.is c.change.ensures) c.actions.ensures c.in_ok-acts-in-Some-change.ensures)
