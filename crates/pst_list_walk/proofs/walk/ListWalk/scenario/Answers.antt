use Rattle.std.proofs.Common.{◌≡◌, subst}
use Rattle.pst_model.specs.ModelView.{view_model}
use Rattle.pst_shape.specs.Walks.{IfRead}
use Rattle.pst_plan_so_far.specs.Laws.{ReadsSources}
use Rattle.pst_list_walk.specs.Walks.{answer}
use Rattle.pst_list_walk.proofs.Refusing.{behind_read, stands_sources}
use Rattle.pst_list_walk.proofs.walk.ListWalk.scenario.Goals as goal

pub returns-in-Some-clause-read : goal.returns-in-Some-clause-read
returns-in-Some-clause-read c =
    let w = c.self.inside in
    let r = c.scenario.result.now in
    subst (λ k. IfRead (answer k) (λ s. r ≡ s)) c.self.view_is
    (behind_read w.model.now w.root w.seed w.level w.links.choices w.values c.in-Some.values r c.in-Some.is c.self.invariant.stands c.scenario.ensures)

pub returns-in-Some-clause-sources : goal.returns-in-Some-clause-sources
returns-in-Some-clause-sources c =
    let w = c.self.inside in
    subst (λ k. ReadsSources (view_model k.model) k.root k.seed k.level k.choices) c.self.view_is
    (stands_sources w.model.now w.root w.seed w.level w.links.choices w.values c.in-Some.values c.in-Some.is c.self.invariant.stands)
