use Rattle.std.proofs.Common.{◌≡◌, ap, sym, subst, map, ◌∙◌}
use Rattle.pst_shape_parts.specs.Trees.{bare}
use Rattle.pst_shape.specs.Walks.{IfRead}
use Rattle.pst_supply.specs.Walks.{answer as supply_answer, IfRead as SupplyRead}
use Rattle.pst_link_walk.specs.Walks.{answer}
use Rattle.pst_link_walk.proofs.Beginning.{shape_reads}
use Rattle.pst_link_walk.proofs.Answering.{none_answers, some_answers, opened_acts, read_same}
use Rattle.pst_link_walk.proofs.walk.LinkWalk.acts.Goals as goal

pub returns-in_ok-acts-in-None : goal.returns-in_ok-acts-in-None
returns-in_ok-acts-in-None c =
    let w = c.self.inside in
    let acts = c.in_ok-acts-in-None.acts.items in
    subst (λ a. IfRead a (λ s. acts ≡ s.actions))
    (sym (none_answers w.model.now w.root w.seed w.level w.shape.choices w.supply c.in-None.is c.self.invariant.stands) ∙ ap answer c.self.view_is)
    (opened_acts w.model.now w.root w.seed w.level w.shape.choices c.leaves.result.now acts c.in_ok-acts-in-None.ensures
    (subst (λ a. IfRead a (λ s. c.leaves.result.now ≡ map bare s.actions)) (shape_reads w.model.now w.root w.seed w.level w.shape.choices w.shape c.self.invariant.shape) (c.leaves.ensures w.level)))

pub returns-in_ok-acts-in-Some : goal.returns-in_ok-acts-in-Some
returns-in_ok-acts-in-Some c =
    let w = c.self.inside in
    let k = c.in-Some.supply in
    let acts = c.in_ok-acts-in-Some.acts.items in
    subst (λ a. IfRead a (λ s. acts ≡ s.actions))
    (sym (some_answers w.model.now w.root w.seed w.level w.shape.choices w.supply k c.in-Some.is c.self.invariant.stands) ∙ ap answer c.self.view_is)
    (read_same (supply_answer k) (λ s. acts ≡ s.actions)
    (subst (λ xs. SupplyRead (supply_answer k) (λ s. xs ≡ s.actions)) (sym c.in_ok-acts-in-Some.ensures) c.actions.ensures))
