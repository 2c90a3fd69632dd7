use Rattle.std.proofs.Common.{sym, subst, ap, ◌∙◌}
use Rattle.pst_search_loop.specs.Kept.{at_level}
use Rattle.pst_search.specs.Made.{IsGround}
use Rattle.pst_list_values.specs.Walked.{kept_of}
use Rattle.pst_search.proofs.reading.ReadingWalker.begin.Goals as goal

pub invariant_of-self : goal.invariant_of-self
invariant_of-self c = record { ground = subst IsGround (sym c.in_err-restart.ensures.err) c.self.invariant.ground; tied = tt; planned = tt }

pub invariant_of-self-2 : goal.invariant_of-self-2
invariant_of-self-2 c = record {
  ground = subst IsGround (sym c.in_ok-restart.ensures.ok) (record { sound = c.self.invariant.ground.sound; concrete = c.self.invariant.ground.concrete });
  tied = tt;
  planned = tt;
}

pub returns : goal.returns
returns c = ap kept_of c.in_ok-restart.ensures.ok ∙ ap (λ k. at_level (kept_of k) c.args.level) c.self.view_is
