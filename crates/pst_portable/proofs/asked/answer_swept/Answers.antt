use Rattle.pst_outcome.specs.Outcome.{bytes_of}
use Rattle.pst_portable.proofs.asked.answer_swept.Goals as goal

pub answer_sweep-requires-clause-sound : goal.answer_sweep-requires-clause-sound
answer_sweep-requires-clause-sound g c = λ names lives. c.requires.ready.sound

pub answer_sweep-requires-clause-concrete : goal.answer_sweep-requires-clause-concrete
answer_sweep-requires-clause-concrete g c = λ names lives. c.requires.ready.concrete

pub answer_sweep-requires-clause-swept : goal.answer_sweep-requires-clause-swept
answer_sweep-requires-clause-swept g c = λ names lives. c.requires.ready.asked

pub answer_sweep-requires-clause-fits : goal.answer_sweep-requires-clause-fits
answer_sweep-requires-clause-fits g c = λ names lives. c.requires.ready.fits

pub returns : goal.returns
returns g c = c.answer_sweep.ensures (bytes_of c.args.question.now.trace)
