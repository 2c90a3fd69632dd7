use Rattle.std.proofs.Common.{sym, subst, ◌∙◌}
use Rattle.pst_list_walk.specs.Walks.{answer}
use Rattle.pst_search_loop.specs.Kept.{IsWhole}
use Rattle.pst_search.specs.Readings.{IsPlanned}
use Rattle.pst_search.proofs.reading.Reading.found.Goals as goal

pub invariant_of-self : goal.invariant_of-self
invariant_of-self c = record { ground = c.self.invariant.ground; tied = c.self.invariant.tied; planned = subst (IsPlanned c.self.inside.lists) (sym c.take-plan.ensures.after) tt }

pub found_with-requires-clause-whole : goal.found_with-requires-clause-whole
found_with-requires-clause-whole c = subst (λ k. IsWhole (answer k)) (sym c.self.view_is) c.requires

pub found_with-requires-clause-plan : goal.found_with-requires-clause-plan
found_with-requires-clause-plan c = subst (IsPlanned c.self.inside.lists) (sym c.take-plan.ensures.value ∙ c.in-Some.is) c.self.invariant.planned

pub found_at-requires : goal.found_at-requires
found_at-requires c = subst (λ k. IsWhole (answer k)) (sym c.self.view_is) c.requires
