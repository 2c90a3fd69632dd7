use Rattle.std.proofs.Common.{arith, min, refl}
use Rattle.pst_model.specs.ModelView.{view_model}
use Rattle.pst_outcome.specs.Outcome.{bytes_of}
use Rattle.pst_portable.proofs.Tasks.{fits_one}
use Rattle.pst_portable.proofs.Done.{first_done, first_made}
use Rattle.pst_portable.proofs.asked.answer_on_first.Goals as goal

pub answer_alone-requires : goal.answer_alone-requires
answer_alone-requires g c =
    let ready = c.requires.ready in record {
      sound = ready.sound;
      concrete = ready.concrete;
      small = ready.small;
      some = omega arith;
      few = omega arith;
      fits = fits_one c.args.question.now.task.work (min c.args.lanes.now.len 16) ready.fits c.requires.one;
      asked = ready.asked;
    }

pub returns-clause-done : goal.returns-clause-done
returns-clause-done g c =
    let q = c.args.question.now in
    let some = c.in-Some.ensures.variant.0 refl in
    let same = c.args.lanes.now.ok.0 in
    first_done g.T.Target.calls g.T.Target.faults c.args.lanes.now.items c.in-Some.lane.now c.answer_alone.new.lane q.names (view_model q.model) q.root q.task (bytes_of q.trace) c.answer_alone.result
    (omega (arith, some, same)) c.in-Some.ensures.value (fits_one q.task.work (min c.args.lanes.now.len 16) c.requires.ready.fits c.requires.one) c.answer_alone.ensures.done

pub returns-clause-memory : goal.returns-clause-memory
returns-clause-memory g c =
    let some = c.in-Some.ensures.variant.0 refl in
    let same = c.args.lanes.now.ok.0 in
    first_made g.T.Target.calls g.T.Target.faults c.args.lanes.now.items c.in-Some.lane.now c.answer_alone.new.lane c.answer_alone.result (omega (arith, some, same)) c.in-Some.ensures.value c.answer_alone.ensures.memory
