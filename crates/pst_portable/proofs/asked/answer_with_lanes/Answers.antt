use Rattle.std.proofs.Common.{min, length, arith}
use Rattle.pst_outcome.specs.Outcome.{bytes_of}
use Rattle.pst_portable.proofs.Tasks.{fits_more}
use Rattle.pst_portable.proofs.Done.{behind_first}
use Rattle.pst_portable.proofs.asked.answer_with_lanes.Goals as goal

pub answer_on_first-requires-clause-ready : goal.answer_on_first-requires-clause-ready
answer_on_first-requires-clause-ready g c = c.requires.ready

pub returns-then-not-is_several-clause-others : goal.returns-then-not-is_several-clause-others
returns-then-not-is_several-clause-others g c = behind_first c.args.lanes.now.items c.answer_on_first.new.lanes.items c.answer_on_first.ensures.others

pub answer_shared-requires-clause-sound : goal.answer_shared-requires-clause-sound
answer_shared-requires-clause-sound g c = λ names lives. c.requires.ready.sound

pub answer_shared-requires-clause-concrete : goal.answer_shared-requires-clause-concrete
answer_shared-requires-clause-concrete g c = λ names lives. c.requires.ready.concrete

pub answer_shared-requires-clause-fits : goal.answer_shared-requires-clause-fits
answer_shared-requires-clause-fits g c = λ names lives. (
  fits_more c.args.question.now.task.work (min c.args.lanes.now.len 16) 16 c.requires.ready.few c.requires.ready.fits,
  fits_more c.args.question.now.task.work (min c.args.lanes.now.len 16) (length c.args.lanes.now.items) (let same = c.args.lanes.now.ok.0 in omega (arith, same)) c.requires.ready.fits,
)

pub returns-clause-done : goal.returns-clause-done
returns-clause-done g c = c.answer_shared.ensures.owed (bytes_of c.args.question.now.trace)
