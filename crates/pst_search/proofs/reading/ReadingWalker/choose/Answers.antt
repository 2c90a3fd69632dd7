use Rattle.std.proofs.Common.{sym, subst, ap, ◌∙◌}
use Rattle.pst_list_walk.specs.Walks.{answer}
use Rattle.pst_search_loop.specs.Kept.{with_choice}
use Rattle.pst_search_loop.specs.Kept.{HasDigit as NamesOption}
use Rattle.pst_list_values.specs.Walked.{kept_of}
use Rattle.pst_list_values.specs.Tied.{IsTied}
use Rattle.pst_search.proofs.Looks.{digit_at}
use Rattle.pst_search.proofs.Grounds.{ground_same}
use Rattle.pst_search.proofs.reading.ReadingWalker.choose.Goals as goal

pub choose_at-requires-clause-sound : goal.choose_at-requires-clause-sound
choose_at-requires-clause-sound c = c.self.invariant.ground.sound

pub choose_at-requires-clause-tied : goal.choose_at-requires-clause-tied
choose_at-requires-clause-tied c = subst (IsTied c.self.inside.lists) (sym c.take-behind.ensures.value) c.self.invariant.tied

pub choose_at-requires-clause-digit : goal.choose_at-requires-clause-digit
choose_at-requires-clause-digit c = digit_at c.self.inside.lists c.args.digit (subst (λ k. NamesOption (answer k) c.args.digit) (sym c.self.view_is) c.requires)

pub invariant_of-self : goal.invariant_of-self
invariant_of-self c = record {
  ground = ground_same c.self.inside.lists c.choose_at.new.lists c.choose_at.ensures.same c.self.invariant.ground;
  tied = subst (IsTied c.choose_at.new.lists) (sym c.take-behind.ensures.after) tt;
  planned = tt;
}

pub invariant_of-self-2 : goal.invariant_of-self-2
invariant_of-self-2 c = record {
  ground = ground_same c.self.inside.lists c.choose_at.new.lists c.choose_at.ensures.same c.self.invariant.ground;
  tied = c.in_ok-self-inside.ensures.tied;
  planned = tt;
}

pub returns : goal.returns
returns c = ap kept_of c.in_ok-self-inside.ensures.chosen ∙ ap (λ k. with_choice (kept_of k) c.args.digit) c.self.view_is
