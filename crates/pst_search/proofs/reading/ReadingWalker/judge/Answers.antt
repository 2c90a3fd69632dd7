use Rattle.std.proofs.Common.{sym, subst}
use Rattle.std.specs.Prelude.{IfOk}
use Rattle.pst_list_walk.specs.Walks.{answer}
use Rattle.pst_search_loop.specs.Kept.{IsWhole, Judges}
use Rattle.pst_list_values.specs.Walked.{kept_of}
use Rattle.pst_search.proofs.reading.ReadingWalker.judge.Goals as goal

pub judge_at-requires-clause-whole : goal.judge_at-requires-clause-whole
judge_at-requires-clause-whole c = subst (λ k. IsWhole (answer k)) (sym c.self.view_is) c.requires

pub judge_at-requires-clause-sound : goal.judge_at-requires-clause-sound
judge_at-requires-clause-sound c = c.self.invariant.ground.sound

pub judge_at-requires-clause-concrete : goal.judge_at-requires-clause-concrete
judge_at-requires-clause-concrete c = c.self.invariant.ground.concrete

pub judge_at-requires-clause-planned : goal.judge_at-requires-clause-planned
judge_at-requires-clause-planned c = c.self.invariant.planned

pub returns : goal.returns
returns c = subst (λ k. IfOk c.judge_at.result (λ judged. Judges (kept_of k) judged)) c.self.view_is c.judge_at.ensures
