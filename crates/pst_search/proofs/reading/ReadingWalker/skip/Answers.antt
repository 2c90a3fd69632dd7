use Rattle.std.proofs.Common.{sym, subst}
use Rattle.std.specs.Prelude.{IfOk}
use Rattle.pst_list_walk.specs.Walks.{answer}
use Rattle.pst_search_loop.specs.Kept.{HasOptions, Skips}
use Rattle.pst_list_values.specs.Walked.{kept_of}
use Rattle.pst_search.proofs.reading.ReadingWalker.skip.Goals as goal

pub skip_at-requires-clause-tied : goal.skip_at-requires-clause-tied
skip_at-requires-clause-tied c = c.self.invariant.tied

pub skip_at-requires-clause-options : goal.skip_at-requires-clause-options
skip_at-requires-clause-options c = subst (λ k. HasOptions (answer k) c.args.count) (sym c.self.view_is) c.requires.options

pub invariant_of-self : goal.invariant_of-self
invariant_of-self c = record { ground = record { sound = c.self.invariant.ground.sound; concrete = c.self.invariant.ground.concrete }; tied = c.skip_at.ensures.tied; planned = c.self.invariant.planned }

pub returns-clause-skips : goal.returns-clause-skips
returns-clause-skips c = subst (λ k. IfOk c.skip_at.result (λ skipped. Skips (kept_of k) c.args.from c.args.count skipped)) c.self.view_is c.skip_at.ensures.skips
