use Rattle.std.proofs.Common.{◌<◌, length, sym, subst, ap, ◌∙◌}
use Rattle.pst_search.specs.Made.{IsGround}
use Rattle.pst_list_values.specs.Walked.{kept_of}
use Rattle.pst_list_values.specs.Tied.{IsTied}
use Rattle.pst_search.proofs.reading.ReadingWalker.back.Goals as goal

pub back_at-requires-clause-tied : goal.back_at-requires-clause-tied
back_at-requires-clause-tied c = subst (IsTied c.self.inside.lists) (sym c.take-behind.ensures.value) c.self.invariant.tied

pub back_at-requires-clause-some : goal.back_at-requires-clause-some
back_at-requires-clause-some c = subst (λ k. 0 < length k.choices) (sym c.self.view_is) c.requires

pub invariant_of-self : goal.invariant_of-self
invariant_of-self c =
    let g = subst IsGround c.back_at.ensures.back.1 c.self.invariant.ground in
    record { ground = record { sound = g.sound; concrete = g.concrete }; tied = c.back_at.ensures.tied; planned = tt }

pub returns : goal.returns
returns c = (c.back_at.ensures.back.0, ap kept_of (sym c.self.view_is ∙ c.back_at.ensures.back.1))
