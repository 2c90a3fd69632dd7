use Rattle.std.proofs.Common.{◌≡◌, List, ap, sym, subst, map, ◌∙◌, arith}
use Rattle.pst_scen.specs.declared.act.Act.{Act}
use Rattle.pst_shape_parts.specs.Trees.{bare}
use Rattle.pst_shape.specs.Walks.{IfRead}
use Rattle.pst_supply.specs.Walks.{answer as supply_answer}
use Rattle.pst_link_walk.specs.Walks.{answer}
use Rattle.pst_link_walk.proofs.Beginning.{shape_reads}
use Rattle.pst_link_walk.proofs.Answering.{none_stands, none_answers, some_answers, read_same}
use Rattle.pst_link_walk.proofs.Opened.{opened_whole}
use Rattle.pst_link_walk.proofs.walk.LinkWalk.opened.Goals as goal

pub returns-else-len-leaves : goal.returns-else-len-leaves
returns-else-len-leaves c =
    let w = c.self.inside in
    let leaves = c.leaves.result.now in
    subst (λ (xs : List Act). IfRead (answer c.args.self.now) (λ s. xs ≡ s.actions)) (sym c.deref.ensures.value)
    (subst (λ a. IfRead a (λ s. w.opened.items ≡ s.actions)) (sym (none_answers w.model.now w.root w.seed w.level w.shape.choices w.supply c.in-None.is c.self.invariant.stands) ∙ ap answer c.self.view_is)
    (opened_whole w.model.now w.root w.seed w.level w.shape.choices w.opened.items leaves (none_stands w.model.now w.root w.seed w.level w.shape.choices w.supply c.in-None.is c.self.invariant.stands)
    (subst (λ a. IfRead a (λ s. leaves ≡ map bare s.actions)) (shape_reads w.model.now w.root w.seed w.level w.shape.choices w.shape c.self.invariant.shape) (c.leaves.ensures w.level)) (omega arith) c.self.invariant.opened))

pub returns-in-Some : goal.returns-in-Some
returns-in-Some c =
    let w = c.self.inside in
    let k = c.in-Some.supply in
    let acts = c.actions.result.now in
    subst (λ a. IfRead a (λ s. acts ≡ s.actions)) (sym (some_answers w.model.now w.root w.seed w.level w.shape.choices w.supply k c.in-Some.is c.self.invariant.stands) ∙ ap answer c.self.view_is)
    (read_same (supply_answer k) (λ s. acts ≡ s.actions) c.actions.ensures)
