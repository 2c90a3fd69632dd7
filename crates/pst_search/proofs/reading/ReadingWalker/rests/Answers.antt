use Rattle.std.proofs.Common.{sym, subst}
use Rattle.std.specs.Prelude.{IfOk}
use Rattle.pst_list_walk.specs.Walks.{answer}
use Rattle.pst_search_loop.specs.Kept.{HasOptions, Rests}
use Rattle.pst_list_values.specs.Walked.{kept_of}
use Rattle.pst_search.proofs.reading.ReadingWalker.rests.Goals as goal

pub rests_on-requires : goal.rests_on-requires
rests_on-requires c = subst (λ k. HasOptions (answer k) c.args.count) (sym c.self.view_is) c.requires

pub returns : goal.returns
returns c = subst (λ k. IfOk c.rests_on.result (λ conflict. Rests (kept_of k) c.args.count conflict)) c.self.view_is c.rests_on.ensures
