use Rattle.std.proofs.Common.{sym, subst}
use Rattle.pst_search_loop.specs.Kept.{IsWhole}
use Rattle.pst_list_walk.specs.Walks.{answer}
use Rattle.pst_search.specs.Readings.{PlansWhole}
use Rattle.pst_search.proofs.reading.Reading.planned.Goals as goal

pub plan_whole-requires : goal.plan_whole-requires
plan_whole-requires c = subst (λ k. IsWhole (answer k)) (sym c.self.view_is) (subst IsWhole (sym c.requires.1) tt)

pub invariant_of-self : goal.invariant_of-self
invariant_of-self c = record { ground = c.self.invariant.ground; tied = c.self.invariant.tied; planned = subst (PlansWhole c.self.inside.lists) c.in-There.is c.in_ok-planned.ensures }
