use Rattle.std.proofs.Common.{subst}
use Rattle.pst_search_loop.specs.Kept.{Shows}
use Rattle.pst_search_loop.specs.declared.walker.Look.TheVariants as look
use Rattle.pst_list_values.specs.Walked.{kept_of}
use Rattle.pst_search.proofs.reading.ReadingWalker.look.Goals as goal

pub look_behind-requires-clause-sound : goal.look_behind-requires-clause-sound
look_behind-requires-clause-sound c = c.self.invariant.ground.sound

pub look_behind-requires-clause-tied : goal.look_behind-requires-clause-tied
look_behind-requires-clause-tied c = c.self.invariant.tied

pub planned-requires : goal.planned-requires
planned-requires c = subst (λ k. Shows (kept_of k) look.Whole) c.self.view_is (subst (Shows (kept_of c.self.inside.lists)) c.in-Whole.is c.in_ok-shown.ensures)

pub returns-in_default-clause-shows : goal.returns-in_default-clause-shows
returns-in_default-clause-shows c = subst (λ k. Shows (kept_of k) c.in_ok-shown.shown) c.self.view_is c.in_ok-shown.ensures
